-- A row that is written.
use Rattle.std.proofs.Common.{◌≡◌, ℕ, List, [], ◌∷◌, ◌++◌, Bool, true, false, cond, Option, Some, None, IsSome, Result, Ok, Err, OnOk, OnErr, IfErr, refl, sym, ap, subst, ◌∙◌}
use Rattle.std.specs.Map.{set_value}
use Rattle.std.specs.Str.{bytes_eq}
use Rattle.zk_base.specs.declared.time.Moment.{Moment}
use Rattle.zk_base.specs.Shelf.{Files, Outside, IsCreated, created, with_file}
use Rattle.zk_ascii.specs.Text.{header_text, row_text}
use Rattle.zk_outcome.specs.declared.stop.Stop.{Stop}
use Rattle.zk_outcome.specs.declared.stop.Stop.TheVariants.{ReadFault, WriteFault, NoMemory}
use Rattle.zk_logs.specs.Logs.{Row, file_name, open_files, log_files}
use Rattle.zk_logs.specs.Outputs.{OutputsBegun}
use Rattle.zk_logs.specs.Stopped.{IsNotBegun}
use Rattle.zk_logs.specs.Handed.{HandsOver, HandsPart}
use Rattle.zk_logs.specs.Written.{AreWritten}
use Rattle.zk_logs.proofs.OutputLemmas.{same_bytes}
use Rattle.zk_logs.proofs.OutsideLemmas.{stays_created}
use Rattle.zk_logs.proofs.PieceLemmas.{Key, path_of, waiting, at_path, by_path, piece_set}
use Rattle.zk_logs.proofs.WrittenLemmas.{rows_begun, row_added, row_broken_off, row_begins, row_uncreated}

abbrev Entries : Type 0
Entries = List (Key × List ℕ)

-- a row more is written, whatever came before
abbrev pub Writes : Row → Files → Outside → Files → Outside → Type 0
Writes row waits old waits' new =
    (before : Option Files) (rows : List Row) → AreWritten before (open_files rows) waits old.outputs → AreWritten before (open_files (rows ++ row ∷ [])) waits' new.outputs

-- the outputs are begun of the rows with one more and whatever comes behind it
abbrev pub Begun : Row → Files → Outside → Outside → Type 0
Begun row waits old new =
    (before : Option Files) (rows more : List Row) (end : Moment) → AreWritten before (open_files rows) waits old.outputs → OutputsBegun (log_files (rows ++ row ∷ more) end) before new.outputs

-- the files of these pieces are created
abbrev pub Created : Files → Outside → Type 0
Created waits outside = (name : List ℕ) → IsSome (waits name) → IsCreated outside name

-- nothing is written
pub nothing_begun : (row : Row) (waits : Files) (old new : Outside) → new.outputs ≡ old.outputs → Begun row waits old new
nothing_begun row waits old new same before rows more end written =
    subst (λ outputs. OutputsBegun (log_files (rows ++ row ∷ more) end) before outputs) (sym same) (rows_begun before old.outputs rows (row ∷ more) end waits written)

-- A log that is open -----------------------------------------------------------------------------------------------

module _ (row : Row) (entries : Entries) (piece : List ℕ) (found : at_path path_of entries row.path ≡ Some piece) where
  waits_here : waiting path_of entries (file_name row.path) ≡ Some piece
  waits_here = sym (by_path path_of entries row.path) ∙ found

  pub open_created : (old : Outside) → Created (waiting path_of entries) old → IsCreated old (file_name row.path)
  open_created old there = there (file_name row.path) (subst (λ p. IsSome p) (sym waits_here) refl)

  module _ (old new : Outside) (entries' : Entries) (piece' line : List ℕ) (is : line ≡ row_text row.cells)
      (set : entries' ≡ set_value (λ key. bytes_eq row.path (path_of key)) entries piece') where
    set_here : (other : List ℕ) → waiting path_of entries' other ≡ with_file (waiting path_of entries) (file_name row.path) piece' other
    set_here other = ap (λ es. waiting path_of es other) set ∙ piece_set path_of entries row.path piece piece' other found

    pub open_writes : (answer : Result (Unit {0}) Stop) → OnOk answer (HandsOver (file_name row.path) (piece ++ line) old new piece')
        → OnOk answer (Writes row (waiting path_of entries) old (waiting path_of entries') new)
    open_writes (Ok done) hands = λ before rows written.
        row_added before old.outputs new.outputs rows row (waiting path_of entries) (waiting path_of entries') piece hands.handed piece' written waits_here
        (ap (λ t. piece ++ t) (sym is) ∙ hands.joined) hands.outputs set_here
    open_writes (Err stop) hands = tt

    there_before : (name : List ℕ) (b : Bool) → bytes_eq (file_name row.path) name ≡ b → IsSome (cond b (Some piece') (waiting path_of entries name)) → IsSome (waiting path_of entries name)
    there_before name true e there = subst (λ p. IsSome p) (sym (ap (waiting path_of entries) (sym (same_bytes (file_name row.path) name e)) ∙ waits_here)) refl
    there_before name false e there = there

    pub open_still_created : (answer : Result (Unit {0}) Stop) → Created (waiting path_of entries) old → OnOk answer (HandsOver (file_name row.path) (piece ++ line) old new piece')
        → OnOk answer (Created (waiting path_of entries') new)
    open_still_created (Ok done) there hands = λ name waits.
        stays_created old new name (file_name row.path) hands.handed
        (there name (there_before name (bytes_eq (file_name row.path) name) refl (subst (λ p. IsSome p) (set_here name) waits))) hands.outputs
    open_still_created (Err stop) there hands = tt

    pub open_begun : (answer : Result (Unit {0}) Stop) → IfErr answer (λ stop. HandsPart (file_name row.path) (piece ++ line) old stop new)
        → OnErr answer (Begun row (waiting path_of entries) old new)
    open_begun (Ok done) hands = tt
    open_begun (Err stop) hands = λ before rows more end written.
        row_broken_off before old.outputs new.outputs rows more end row (waiting path_of entries) piece hands.handed hands.rest written waits_here
        (ap (λ t. piece ++ t) (sym is) ∙ hands.joined) hands.outputs

-- A log that is begun ----------------------------------------------------------------------------------------------

module _ (row : Row) (entries : Entries) (none : at_path path_of entries row.path ≡ None) (old new : Outside) where
  none_here : waiting path_of entries (file_name row.path) ≡ None
  none_here = sym (by_path path_of entries row.path) ∙ none

  pub new_begun : (answer : Result (Unit {0}) Stop) → IfErr answer (λ stop. IsNotBegun (file_name row.path) stop old new) → OnErr answer (Begun row (waiting path_of entries) old new)
  new_begun (Ok done) creates = tt
  new_begun (Err ReadFault) creates = absurd creates
  new_begun (Err WriteFault) creates = λ before rows more end written.
      row_uncreated creates.there before old.outputs new.outputs rows more end row (waiting path_of entries) written none_here (ap (λ (o : Outside). o.outputs) creates.after)
  new_begun (Err NoMemory) creates = nothing_begun row (waiting path_of entries) old new (ap (λ (o : Outside). o.outputs) creates)

  pub new_writes : (answer : Result (Unit {0}) Stop) (waits waits' : Files) (line : List ℕ) → OnOk answer (new ≡ created old (file_name row.path))
      → OnOk answer ((other : List ℕ) → waits' other ≡ with_file waits (file_name row.path) (header_text row.path row.columns row.at ++ line) other)
      → ((name : List ℕ) → waits name ≡ waiting path_of entries name) → line ≡ row_text row.cells → OnOk answer (Writes row (waiting path_of entries) old waits' new)
  new_writes (Ok done) waits waits' line creates begun same is = λ before rows written.
      row_begins before old.outputs new.outputs rows row (waiting path_of entries) waits' written none_here (ap (λ (o : Outside). o.outputs) creates)
      (λ other. begun other
      ∙ ap (λ found. cond (bytes_eq (file_name row.path) other) (Some (header_text row.path row.columns row.at ++ line)) found) (same other)
      ∙ ap (λ t. with_file (waiting path_of entries) (file_name row.path) (header_text row.path row.columns row.at ++ t) other) is)
  new_writes (Err stop) waits waits' line creates begun same is = tt
