-- Logs that are closed one after the other.
use Rattle.std.proofs.Common.{◌≡◌, ℕ, List, [], ◌∷◌, ◌++◌, Bool, true, false, cond, Option, Some, None, IsSome, refl, sym, ap, subst, ◌∙◌, append_assoc}
use Rattle.std.specs.List.{IsDistinct}
use Rattle.std.specs.Map.{keys_of}
use Rattle.std.specs.Option.{option_map}
use Rattle.std.specs.Str.{bytes_eq}
use Rattle.std.proofs.lemmas.List.{append-nil}
use Rattle.std.proofs.lemmas.Map.Keys.{IsDistinct-tail}
use Rattle.zk_base.specs.declared.time.Moment.{Moment}
use Rattle.zk_base.specs.Shelf.{Files, Outside, IsCreated, with_piece, appended}
use Rattle.zk_ascii.specs.Text.{close_text}
use Rattle.zk_outcome.specs.declared.stop.Stop.{Stop}
use Rattle.zk_logs.specs.Logs.{Row, file_name, open_files, log_files}
use Rattle.zk_logs.specs.Outputs.{files_over, OutputsBegun}
use Rattle.zk_logs.specs.Stopped.{ChangesOutputs, IsStoppedBy}
use Rattle.zk_logs.specs.Handed.{HandsOver, HandsPart}
use Rattle.zk_logs.specs.Written.{IsJoined, AreWritten}
use Rattle.zk_logs.proofs.OutputLemmas.{same_bytes, more_over, Begins, begun_over}
use Rattle.zk_logs.proofs.OutsideLemmas.{only_both, stopped_both, stays_created}
use Rattle.zk_logs.proofs.LogLemmas.{closed_by}
use Rattle.zk_logs.proofs.PieceLemmas.{waiting, first_waits, first_alone}
use Rattle.zk_logs.proofs.WrittenLemmas.{there_by_piece}

-- a file is closed once nothing waits for it, and is open before
abbrev pub IsOnItsWay : Option (List ℕ) → Option (List ℕ) → Option (List ℕ) → Option (List ℕ) → Type 0
IsOnItsWay text closed handed None = handed ≡ closed
IsOnItsWay text closed handed (Some piece) = IsJoined text handed (Some piece)

-- the logs of the rows are closed but for those whose pieces are left
pub record AreClosing (before : Option Files) (rows : List Row) (end : Moment) (left : Files) (now : Option Files) : Type 0 where
  pub handed : Files
  pub each : (name : List ℕ) → IsOnItsWay (open_files rows name) (log_files rows end name) (handed name) (left name)
  pub outputs : now ≡ option_map (files_over handed) before

-- Single files --------------------------------------------------------------------------------------------------

open_at_first : (text handed waits : Option (List ℕ)) (closed : Option (List ℕ)) (line : List ℕ) → closed ≡ appended text line → IsJoined text handed waits → IsOnItsWay text closed handed waits
open_at_first None None None closed line is joined = sym is
open_at_first None (Some part) None closed line is joined = absurd joined
open_at_first (Some text) None None closed line is joined = absurd joined
open_at_first (Some text) (Some part) None closed line is joined = absurd joined
open_at_first text handed (Some piece) closed line is joined = joined

closed_at_last : (text closed handed : Option (List ℕ)) (piece line : List ℕ) → closed ≡ appended text line → IsJoined text handed (Some piece) → appended handed (piece ++ line) ≡ closed
closed_at_last None closed None piece line is joined = absurd joined
closed_at_last None closed (Some part) piece line is joined = absurd joined
closed_at_last (Some text) closed None piece line is joined = absurd joined
closed_at_last (Some text) closed (Some part) piece line is joined = ap Some (sym (append_assoc part piece line) ∙ ap (λ t. t ++ line) (sym joined)) ∙ sym is

begins_itself : (whole : Option (List ℕ)) → Begins whole whole
begins_itself None = tt
begins_itself (Some text) = ([], sym (append-nil text))

way_begins : (text closed handed waits : Option (List ℕ)) (line : List ℕ) → closed ≡ appended text line → IsOnItsWay text closed handed waits → Begins handed closed
way_begins text closed handed None line is way = subst (λ h. Begins h closed) (sym way) (begins_itself closed)
way_begins None closed None (Some piece) line is way = absurd way
way_begins None closed (Some part) (Some piece) line is way = absurd way
way_begins (Some text) closed None (Some piece) line is way = absurd way
way_begins (Some text) closed (Some part) (Some piece) line is way =
    subst (λ c. Begins (Some part) c) (sym is) (piece ++ line, ap (λ t. t ++ line) way ∙ append_assoc part piece line)

part_begins : (text closed handed : Option (List ℕ)) (piece line part rest : List ℕ) → closed ≡ appended text line → IsJoined text handed (Some piece) → piece ++ line ≡ part ++ rest
    → Begins (appended handed part) closed
part_begins None closed None piece line part rest is joined both = absurd joined
part_begins None closed (Some before) piece line part rest is joined both = absurd joined
part_begins (Some text) closed None piece line part rest is joined both = absurd joined
part_begins (Some text) closed (Some before) piece line part rest is joined both =
    subst (λ c. Begins (Some (before ++ part)) c) (sym is)
    (rest, ap (λ t. t ++ line) joined ∙ append_assoc before piece line ∙ ap (λ t. before ++ t) both ∙ sym (append_assoc before part rest))

-- All files -----------------------------------------------------------------------------------------------------

pub closing_first : (before now : Option Files) (rows : List Row) (end : Moment) (left : Files) → AreWritten before (open_files rows) left now → AreClosing before rows end left now
closing_first before now rows end left written = record {
  handed = written.handed;
  each = λ name. open_at_first (open_files rows name) (written.handed name) (left name) (log_files rows end name) (close_text end) (closed_by rows end name) (written.joined name);
  outputs = written.outputs;
}

pub closing_begun : (before now : Option Files) (rows : List Row) (end : Moment) (left : Files) → AreClosing before rows end left now → OutputsBegun (log_files rows end) before now
closing_begun before now rows end left closing =
    begun_over before now closing.handed (log_files rows end) closing.outputs
    (λ name. way_begins (open_files rows name) (log_files rows end name) (closing.handed name) (left name) (close_text end) (closed_by rows end name) (closing.each name))

pub written_closes : (before now : Option Files) (rows : List Row) (end : Moment) (left : Files) → AreWritten before (open_files rows) left now → OutputsBegun (log_files rows end) before now
written_closes before now rows end left written = closing_begun before now rows end left (closing_first before now rows end left written)

pub closing_done : (before now : Option Files) (rows : List Row) (end : Moment) → AreClosing before rows end (λ name. None) now → now ≡ option_map (files_over (log_files rows end)) before
closing_done before now rows end closing =
    let same : closing.handed ≡ log_files rows end = λ p name. closing.each name p in
    closing.outputs ∙ ap (λ (files : Files). option_map (files_over files) before) same

-- the piece that is the first of those that are left
joined_first : {K : Type 0} (bytes : K → List ℕ) (before now : Option Files) (rows : List Row) (end : Moment) (entry : K × List ℕ) (entries : List (K × List ℕ))
    → (closing : AreClosing before rows end (waiting bytes (entry ∷ entries)) now)
    → IsJoined (open_files rows (file_name (bytes entry.0))) (closing.handed (file_name (bytes entry.0))) (Some entry.1)
joined_first bytes before now rows end entry entries closing =
    let name = file_name (bytes entry.0) in
    subst (λ p. IsOnItsWay (open_files rows name) (log_files rows end name) (closing.handed name) p) (first_waits bytes entries entry) (closing.each name)

-- One log more is closed.
pub closing_more : {K : Type 0} (bytes : K → List ℕ) (before now new : Option Files) (rows : List Row) (end : Moment) (entry : K × List ℕ) (entries : List (K × List ℕ))
    → IsDistinct (λ a b. bytes_eq (bytes a) (bytes b)) (keys_of (entry ∷ entries)) → AreClosing before rows end (waiting bytes (entry ∷ entries)) now
    → new ≡ option_map (λ files. with_piece files (file_name (bytes entry.0)) (entry.1 ++ close_text end)) now → AreClosing before rows end (waiting bytes entries) new
closing_more bytes before now new rows end entry entries distinct closing hands =
    let name = file_name (bytes entry.0) in
    let text = entry.1 ++ close_text end in
    let joined = joined_first bytes before now rows end entry entries closing in
    let there : IsSome (closing.handed name) = (there_by_piece (open_files rows name) (closing.handed name) (Some entry.1) entry.1 joined refl).0 in
    record {
      handed = with_piece closing.handed name text;
      each = λ other.
          elim (bytes_eq name other) as (λ b. bytes_eq name other ≡ b
          → IsOnItsWay (open_files rows other) (log_files rows end other) (closing.handed other) (cond b (Some entry.1) (waiting bytes entries other))
          → IsOnItsWay (open_files rows other) (log_files rows end other) (cond b (appended (closing.handed other) text) (closing.handed other)) (waiting bytes entries other)) [
            | true ↦ λ e way.
                let here : name ≡ other = same_bytes name other e in
                subst (λ n. IsOnItsWay (open_files rows n) (log_files rows end n) (appended (closing.handed n) text) (waiting bytes entries n)) here
                (subst (λ p. IsOnItsWay (open_files rows name) (log_files rows end name) (appended (closing.handed name) text) p) (sym (first_alone bytes entries entry distinct))
                (closed_at_last (open_files rows name) (log_files rows end name) (closing.handed name) entry.1 (close_text end) (closed_by rows end name) joined))
            | false ↦ λ e way. way
          ] refl (closing.each other);
      outputs = hands ∙ ap (option_map (λ (files : Files). with_piece files name text)) closing.outputs ∙ more_over before closing.handed name text there;
    }

-- It is broken off.
pub closing_broken_off : {K : Type 0} (bytes : K → List ℕ) (before now new : Option Files) (rows : List Row) (end : Moment) (entry : K × List ℕ) (entries : List (K × List ℕ)) (part rest : List ℕ)
    → AreClosing before rows end (waiting bytes (entry ∷ entries)) now → entry.1 ++ close_text end ≡ part ++ rest
    → new ≡ option_map (λ files. with_piece files (file_name (bytes entry.0)) part) now → OutputsBegun (log_files rows end) before new
closing_broken_off bytes before now new rows end entry entries part rest closing both hands =
    let name = file_name (bytes entry.0) in
    let joined = joined_first bytes before now rows end entry entries closing in
    let there : IsSome (closing.handed name) = (there_by_piece (open_files rows name) (closing.handed name) (Some entry.1) entry.1 joined refl).0 in
    begun_over before new (with_piece closing.handed name part) (log_files rows end)
    (hands ∙ ap (option_map (λ (files : Files). with_piece files name part)) closing.outputs ∙ more_over before closing.handed name part there)
    (λ other. elim (bytes_eq name other) as (λ b. bytes_eq name other ≡ b → Begins (cond b (appended (closing.handed other) part) (closing.handed other)) (log_files rows end other)) [
      | true ↦ λ e.
          subst (λ n. Begins (appended (closing.handed n) part) (log_files rows end n)) (same_bytes name other e)
          (part_begins (open_files rows name) (log_files rows end name) (closing.handed name) entry.1 (close_text end) part rest (closed_by rows end name) joined both)
      | false ↦ λ e.
          way_begins (open_files rows other) (log_files rows end other) (closing.handed other) (waiting bytes (entry ∷ entries) other) (close_text end) (closed_by rows end other) (closing.each other)
    ] refl)

-- The loop ------------------------------------------------------------------------------------------------------

-- these entries are left of those that there were
pub record Closes {K : Type 0} (bytes : K → List ℕ) (end : Moment) (all left : List (K × List ℕ)) (old now : Outside) : Type 0 where
  pub distinct : IsDistinct (λ a b. bytes_eq (bytes a) (bytes b)) (keys_of left)
  pub created : (name : List ℕ) → IsSome (waiting bytes left name) → IsCreated now name
  pub only : ChangesOutputs old now
  pub closing : (before : Option Files) (rows : List Row) → AreWritten before (open_files rows) (waiting bytes all) old.outputs → AreClosing before rows end (waiting bytes left) now.outputs

pub closes_first : {K : Type 0} (bytes : K → List ℕ) (end : Moment) (all : List (K × List ℕ)) (old : Outside) → IsDistinct (λ a b. bytes_eq (bytes a) (bytes b)) (keys_of all)
    → ((name : List ℕ) → IsSome (waiting bytes all name) → IsCreated old name) → Closes bytes end all all old old
closes_first bytes end all old distinct there = record {
  distinct = distinct;
  created = there;
  only = refl;
  closing = λ before rows written. closing_first before old.outputs rows end (waiting bytes all) written;
}

there_in_rest : (b : Bool) (piece : List ℕ) (found : Option (List ℕ)) → IsSome found → IsSome (cond b (Some piece) found)
there_in_rest true piece found there = refl
there_in_rest false piece found there = there

-- the file of the first that is left is created
pub first_created : {K : Type 0} (bytes : K → List ℕ) (end : Moment) (all entries : List (K × List ℕ)) (entry : K × List ℕ) (old now : Outside) → Closes bytes end all (entry ∷ entries) old now
    → IsCreated now (file_name (bytes entry.0))
first_created bytes end all entries entry old now closes =
    closes.created (file_name (bytes entry.0)) (subst (λ p. IsSome p) (sym (first_waits bytes entries entry)) refl)

pub closes_more : {K : Type 0} (bytes : K → List ℕ) (end : Moment) (all entries : List (K × List ℕ)) (entry : K × List ℕ) (old now new : Outside) → Closes bytes end all (entry ∷ entries) old now
    → HandsOver (file_name (bytes entry.0)) (entry.1 ++ close_text end) now new [] → Closes bytes end all entries old new
closes_more bytes end all entries entry old now new closes hands =
    let name = file_name (bytes entry.0) in
    let outputs : new.outputs ≡ option_map (λ files. with_piece files name (entry.1 ++ close_text end)) now.outputs =
    hands.outputs ∙ ap (λ part. option_map (λ (files : Files). with_piece files name part) now.outputs) (sym (append-nil hands.handed) ∙ sym hands.joined) in
    record {
      distinct = IsDistinct-tail (λ a b. bytes_eq (bytes a) (bytes b)) entry.0 (keys_of entries) closes.distinct;
      created = λ other there.
          stays_created now new other name hands.handed
          (closes.created other (there_in_rest (bytes_eq name other) entry.1 (waiting bytes entries other) there)) hands.outputs;
      only = only_both old now new closes.only hands.only;
      closing = λ before rows written.
          closing_more bytes before now.outputs new.outputs rows end entry entries closes.distinct (closes.closing before rows written) outputs;
    }

-- where it is stopped, all is begun
pub closes_stopped : {K : Type 0} (bytes : K → List ℕ) (end : Moment) (all entries : List (K × List ℕ)) (entry : K × List ℕ) (stop : Stop) (old now new : Outside)
    → Closes bytes end all (entry ∷ entries) old now → HandsPart (file_name (bytes entry.0)) (entry.1 ++ close_text end) now stop new
    → ((before : Option Files) (rows : List Row) → AreWritten before (open_files rows) (waiting bytes all) old.outputs → OutputsBegun (log_files rows end) before new.outputs) × IsStoppedBy stop old new
closes_stopped bytes end all entries entry stop old now new closes hands = (
  λ before rows written.
      closing_broken_off bytes before now.outputs new.outputs rows end entry entries hands.handed hands.rest (closes.closing before rows written) hands.joined hands.outputs,
  stopped_both stop old now new closes.only hands.stopped,
)

pub closes_done : {K : Type 0} (bytes : K → List ℕ) (end : Moment) (all : List (K × List ℕ)) (old now : Outside) → Closes bytes end all [] old now
    → (before : Option Files) (rows : List Row) → AreWritten before (open_files rows) (waiting bytes all) old.outputs → now.outputs ≡ option_map (files_over (log_files rows end)) before
closes_done bytes end all old now closes before rows written = closing_done before now.outputs rows end (closes.closing before rows written)

-- The same, said of equal names and texts ------------------------------------------------------------------------

pub handed_as : (path path' piece piece' line line' : List ℕ) (old new : Outside) (rest : List ℕ) → path ≡ path' → piece ≡ piece' → line ≡ line'
    → HandsOver (file_name path) (piece ++ line) old new rest → HandsOver (file_name path') (piece' ++ line') old new rest
handed_as path path' piece piece' line line' old new rest same_path same_piece same_line hands =
    subst (λ p. HandsOver (file_name p) (piece' ++ line') old new rest) same_path
    (subst (λ t. HandsOver (file_name path) (t ++ line') old new rest) same_piece (subst (λ t. HandsOver (file_name path) (piece ++ t) old new rest) same_line hands))

pub part_as : (stop : Stop) (path path' piece piece' line line' : List ℕ) (old new : Outside) → path ≡ path' → piece ≡ piece' → line ≡ line'
    → HandsPart (file_name path) (piece ++ line) old stop new → HandsPart (file_name path') (piece' ++ line') old stop new
part_as stop path path' piece piece' line line' old new same_path same_piece same_line hands =
    subst (λ p. HandsPart (file_name p) (piece' ++ line') old stop new) same_path
    (subst (λ t. HandsPart (file_name path) (t ++ line') old stop new) same_piece (subst (λ t. HandsPart (file_name path) (piece ++ t) old stop new) same_line hands))
