-- Files that are written but for what waits.
use Rattle.std.proofs.Common.{◌≡◌, ℕ, List, [], ◌∷◌, ◌++◌, Bool, true, false, cond, Option, Some, None, IsSome, refl, sym, ap, subst, ◌∙◌, append_assoc}
use Rattle.std.specs.Option.{option_map}
use Rattle.std.specs.Str.{bytes_eq}
use Rattle.std.proofs.lemmas.Slice.Eq.{bytes_eq-Decides}
use Rattle.zk_base.specs.declared.time.Moment.{Moment}
use Rattle.zk_base.specs.Shelf.{Files, with_file, without_file, with_piece, appended}
use Rattle.zk_ascii.specs.Text.{header_text, row_text}
use Rattle.zk_logs.specs.Logs.{Row, file_name, open_files, log_files}
use Rattle.zk_logs.specs.Outputs.{files_over, OutputsBegun}
use Rattle.zk_logs.specs.Written.{IsJoined, AreWritten}
use Rattle.zk_logs.proofs.OutputLemmas.{same_bytes, created_over, more_over, Begins, begun_over, uncreated_over}
use Rattle.zk_logs.proofs.LogLemmas.{begins_closed, open_files_more, open_files_first}

-- Texts ---------------------------------------------------------------------------------------------------------

-- what is handed over of a text begins all that it begins
handed_begins : (text handed waiting whole : Option (List ℕ)) → IsJoined text handed waiting → Begins text whole → Begins handed whole
handed_begins None None None whole joined begins = tt
handed_begins None None (Some piece) whole joined begins = absurd joined
handed_begins None (Some part) waiting whole joined begins = absurd joined
handed_begins (Some text) None waiting whole joined begins = absurd joined
handed_begins (Some text) (Some part) None whole joined begins = absurd joined
handed_begins (Some text) (Some part) (Some piece) None joined begins = absurd begins
handed_begins (Some text) (Some part) (Some piece) (Some whole) joined begins =
    (piece ++ begins.0, begins.1 ∙ ap (λ t. t ++ begins.0) joined ∙ append_assoc part piece begins.0)

pub there_by_piece : (text handed waiting : Option (List ℕ)) (piece : List ℕ) → IsJoined text handed waiting → waiting ≡ Some piece → IsSome handed × IsSome text
there_by_piece text handed None piece joined is = cc
there_by_piece None None (Some other) piece joined is = absurd joined
there_by_piece None (Some part) (Some other) piece joined is = absurd joined
there_by_piece (Some text) None (Some other) piece joined is = absurd joined
there_by_piece (Some text) (Some part) (Some other) piece joined is = (refl, refl)

none_by_piece : (text handed waiting : Option (List ℕ)) → IsJoined text handed waiting → waiting ≡ None → text ≡ None
none_by_piece None handed waiting joined is = refl
none_by_piece (Some text) None waiting joined is = absurd joined
none_by_piece (Some text) (Some part) None joined is = absurd joined
none_by_piece (Some text) (Some part) (Some piece) joined is = cc

joined_more : (text handed waiting : Option (List ℕ)) (piece line part rest : List ℕ) → IsJoined text handed waiting → waiting ≡ Some piece → piece ++ line ≡ part ++ rest
    → IsJoined (appended text line) (appended handed part) (Some rest)
joined_more text handed None piece line part rest joined is both = cc
joined_more None None (Some other) piece line part rest joined is both = absurd joined
joined_more None (Some before) (Some other) piece line part rest joined is both = absurd joined
joined_more (Some text) None (Some other) piece line part rest joined is both = absurd joined
joined_more (Some text) (Some before) (Some other) piece line part rest joined is both =
    let same : other ≡ piece = cc in
    ap (λ t. t ++ line) joined ∙ append_assoc before other line ∙ ap (λ t. before ++ (t ++ line)) same ∙ ap (λ t. before ++ t) both ∙ sym (append_assoc before part rest)

-- Steps ---------------------------------------------------------------------------------------------------------

-- nothing is written
pub none_written : (outputs : Option Files) (texts waiting : Files) → ((name : List ℕ) → texts name ≡ None) → ((name : List ℕ) → waiting name ≡ None) → AreWritten outputs texts waiting outputs
none_written outputs texts waiting no_text no_piece = record {
  handed = λ name. None;
  joined = λ name. subst (λ t. IsJoined t None (waiting name)) (sym (no_text name)) (subst (λ p. IsJoined None None p) (sym (no_piece name)) tt);
  outputs = same_over outputs;
}
  where
    same_over : (outputs : Option Files) → outputs ≡ option_map (files_over (λ name. None)) outputs
    same_over None = refl
    same_over (Some files) = refl

joined_at : (text text' handed waiting waiting' : Option (List ℕ)) → IsJoined text handed waiting → text' ≡ text → waiting' ≡ waiting → IsJoined text' handed waiting'
joined_at text text' handed waiting waiting' joined text_is waiting_is =
    subst (λ t. IsJoined t handed waiting') (sym text_is) (subst (λ p. IsJoined text handed p) (sym waiting_is) joined)

-- a file is created, and its text waits
pub begins_file : (before now new : Option Files) (texts waiting texts' waiting' : Files) (name text : List ℕ) → AreWritten before texts waiting now
    → new ≡ option_map (λ files. with_file files name []) now → ((other : List ℕ) → texts' other ≡ with_file texts name text other)
    → ((other : List ℕ) → waiting' other ≡ with_file waiting name text other) → AreWritten before texts' waiting' new
begins_file before now new texts waiting texts' waiting' name text written creates texts_are waiting_are = record {
  handed = with_file written.handed name [];
  joined = λ other.
      joined_at (with_file texts name text other) (texts' other) (with_file written.handed name [] other) (with_file waiting name text other) (waiting' other)
      (elim (bytes_eq name other) as (λ b. IsJoined (cond b (Some text) (texts other)) (cond b (Some []) (written.handed other)) (cond b (Some text) (waiting other))) [
        | true ↦ refl
        | false ↦ written.joined other
      ])
      (texts_are other) (waiting_are other);
  outputs = creates ∙ ap (option_map (λ (files : Files). with_file files name [])) written.outputs ∙ created_over before written.handed name;
}

-- a line is added to a text, of which a prefix is handed over
pub adds_line : (before now new : Option Files) (texts waiting texts' waiting' : Files) (name piece line part rest : List ℕ) → AreWritten before texts waiting now
    → waiting name ≡ Some piece → piece ++ line ≡ part ++ rest → new ≡ option_map (λ files. with_piece files name part) now
    → ((other : List ℕ) → texts' other ≡ with_piece texts name line other) → ((other : List ℕ) → waiting' other ≡ with_file waiting name rest other)
    → AreWritten before texts' waiting' new
adds_line before now new texts waiting texts' waiting' name piece line part rest written waits both hands texts_are waiting_are = record {
  handed = with_piece written.handed name part;
  joined = λ other.
      joined_at (with_piece texts name line other) (texts' other) (with_piece written.handed name part other) (with_file waiting name rest other) (waiting' other)
      (elim (bytes_eq name other) as (λ b. bytes_eq name other ≡ b
      → IsJoined (cond b (appended (texts other) line) (texts other)) (cond b (appended (written.handed other) part) (written.handed other)) (cond b (Some rest) (waiting other))) [
        | true ↦ λ e.
            joined_more (texts other) (written.handed other) (waiting other) piece line part rest (written.joined other) (ap waiting (sym (same_bytes name other e)) ∙ waits) both
        | false ↦ λ e. written.joined other
      ] refl)
      (texts_are other) (waiting_are other);
  outputs = hands ∙ ap (option_map (λ (files : Files). with_piece files name part)) written.outputs
      ∙ more_over before written.handed name part (there_by_piece (texts name) (written.handed name) (waiting name) piece (written.joined name) waits).0;
}

-- outputs are begun that are written
pub written_begun : (before now : Option Files) (texts waiting wanted : Files) → AreWritten before texts waiting now → ((name : List ℕ) → Begins (texts name) (wanted name)) → OutputsBegun wanted before now
written_begun before now texts waiting wanted written begins =
    begun_over before now written.handed wanted written.outputs (λ name. handed_begins (texts name) (written.handed name) (waiting name) (wanted name) (written.joined name) (begins name))

-- and where a file couldn't be created
pub uncreated_begun : (there : Bool) (before now new : Option Files) (texts waiting wanted : Files) (name content : List ℕ) → AreWritten before texts waiting now
    → ((other : List ℕ) → Begins (texts other) (wanted other)) → wanted name ≡ Some content
    → new ≡ option_map (λ files. cond there (with_file files name []) (without_file files name)) now → OutputsBegun wanted before new
uncreated_begun there before now new texts waiting wanted name content written begins whole after =
    uncreated_over there before now new written.handed wanted name content written.outputs
    (λ other. handed_begins (texts other) (written.handed other) (waiting other) (wanted other) (written.joined other) (begins other)) whole after

-- Rows ----------------------------------------------------------------------------------------------------------

-- what is written of the rows so far stays, whatever rows come
pub rows_begun : (before now : Option Files) (rows more : List Row) (end : Moment) (waiting : Files) → AreWritten before (open_files rows) waiting now → OutputsBegun (log_files (rows ++ more) end) before now
rows_begun before now rows more end waiting written = written_begun before now (open_files rows) waiting (log_files (rows ++ more) end) written (begins_closed rows more end)

one_more : (rows more : List Row) (row : Row) → (rows ++ row ∷ []) ++ more ≡ rows ++ row ∷ more
one_more rows more row = append_assoc rows (row ∷ []) more

-- A row of a path whose log is open: its line is added, and a prefix of what waits is handed over.
pub row_added : (before now new : Option Files) (rows : List Row) (row : Row) (waiting waiting' : Files) (piece part rest : List ℕ) → AreWritten before (open_files rows) waiting now
    → waiting (file_name row.path) ≡ Some piece → piece ++ row_text row.cells ≡ part ++ rest → new ≡ option_map (λ files. with_piece files (file_name row.path) part) now
    → ((other : List ℕ) → waiting' other ≡ with_file waiting (file_name row.path) rest other) → AreWritten before (open_files (rows ++ row ∷ [])) waiting' new
row_added before now new rows row waiting waiting' piece part rest written waits both hands waiting_are =
    let name = file_name row.path in
    adds_line before now new (open_files rows) waiting (open_files (rows ++ row ∷ [])) waiting' name piece (row_text row.cells) part rest written waits both hands
    (open_files_more rows row (there_by_piece (open_files rows name) (written.handed name) (waiting name) piece (written.joined name) waits).1) waiting_are

pub row_broken_off : (before now new : Option Files) (rows more : List Row) (end : Moment) (row : Row) (waiting : Files) (piece part rest : List ℕ) → AreWritten before (open_files rows) waiting now
    → waiting (file_name row.path) ≡ Some piece → piece ++ row_text row.cells ≡ part ++ rest → new ≡ option_map (λ files. with_piece files (file_name row.path) part) now
    → OutputsBegun (log_files (rows ++ row ∷ more) end) before new
row_broken_off before now new rows more end row waiting piece part rest written waits both hands =
    subst (λ all. OutputsBegun (log_files all end) before new) (one_more rows more row)
    (rows_begun before new (rows ++ row ∷ []) more end (with_file waiting (file_name row.path) rest)
    (row_added before now new rows row waiting (with_file waiting (file_name row.path) rest) piece part rest written waits both hands (λ other. refl)))

-- The first row of a path: its log is begun.
pub row_begins : (before now new : Option Files) (rows : List Row) (row : Row) (waiting waiting' : Files) → AreWritten before (open_files rows) waiting now
    → waiting (file_name row.path) ≡ None → new ≡ option_map (λ files. with_file files (file_name row.path) []) now
    → ((other : List ℕ) → waiting' other ≡ with_file waiting (file_name row.path) (header_text row.path row.columns row.at ++ row_text row.cells) other)
    → AreWritten before (open_files (rows ++ row ∷ [])) waiting' new
row_begins before now new rows row waiting waiting' written waits creates waiting_are =
    let name = file_name row.path in
    begins_file before now new (open_files rows) waiting (open_files (rows ++ row ∷ [])) waiting' name (header_text row.path row.columns row.at ++ row_text row.cells) written creates
    (open_files_first rows row (none_by_piece (open_files rows name) (written.handed name) (waiting name) (written.joined name) waits)) waiting_are

content_by_part : (text whole : Option (List ℕ)) (part : List ℕ) → text ≡ Some part → Begins text whole → (content : List ℕ) × (whole ≡ Some content)
content_by_part None whole part is begins = cc
content_by_part (Some text) None part is begins = absurd begins
content_by_part (Some text) (Some whole) part is begins = (whole, refl)

-- Its file couldn't be created.
pub row_uncreated : (there : Bool) (before now new : Option Files) (rows more : List Row) (end : Moment) (row : Row) (waiting : Files) → AreWritten before (open_files rows) waiting now
    → waiting (file_name row.path) ≡ None → new ≡ option_map (λ files. cond there (with_file files (file_name row.path) []) (without_file files (file_name row.path))) now
    → OutputsBegun (log_files (rows ++ row ∷ more) end) before new
row_uncreated there before now new rows more end row waiting written waits after =
    let name = file_name row.path in
    let text = header_text row.path row.columns row.at ++ row_text row.cells in
    let wanted = log_files (rows ++ row ∷ more) end in
    let named : bytes_eq name name ≡ true = (bytes_eq-Decides name name).1 refl in
    let first : open_files (rows ++ row ∷ []) name ≡ Some text =
    open_files_first rows row (none_by_piece (open_files rows name) (written.handed name) (waiting name) (written.joined name) waits) name
    ∙ ap (λ b. cond b (Some text) (open_files rows name)) named in
    let begins : Begins (open_files (rows ++ row ∷ []) name) (wanted name) =
    subst (λ all. Begins (open_files (rows ++ row ∷ []) name) (log_files all end name)) (one_more rows more row) (begins_closed (rows ++ row ∷ []) more end name) in
    let content = content_by_part (open_files (rows ++ row ∷ []) name) (wanted name) text first begins in
    uncreated_begun there before now new (open_files rows) waiting wanted name content.0 written (begins_closed rows (row ∷ more) end) content.1 after
