-- The cells that a column can have: no value, or a set or a vector exactly where its type is one, of strings exactly where its
-- type says so. The text of any other value is taken for nothing else in a log.
use Rattle.std.specs.Prelude.{◌≡◌, ◌≢◌, ◌<◌, ◌^◌, All, ℕ, Bool, true, false, ◌||◌, eqb, List, [], ◌∷◌, codes}
use Rattle.std.specs.List.{starts_with}
use Rattle.std.specs.Str.{bytes_eq}
use Rattle.zk_value.specs.declared.cell.Atom.{Atom}
use Rattle.zk_value.specs.declared.cell.Atom.TheVariants.{Text, Plain}
use Rattle.zk_value.specs.declared.cell.Cell.{Cell}
use Rattle.zk_value.specs.declared.cell.Cell.TheVariants.{Unset, One, Many}
use Rattle.zk_value.specs.declared.cell.Column.{Column}

-- the name of a type of sets or vectors
abbrev pub is_container : List ℕ → Bool
is_container kind = starts_with eqb kind (codes "set[") || starts_with eqb kind (codes "vector[")

-- the name of a type of strings, or of sets or vectors of strings
abbrev pub is_of_strings : List ℕ → Bool
is_of_strings kind = bytes_eq kind (codes "string") || bytes_eq kind (codes "set[string]") || bytes_eq kind (codes "vector[string]")

-- the text of a value that is no string: neither empty nor a word of the log's own, and without tab, comma and line end
pub record IsPlain (text : List ℕ) : Type 0 where
  pub some : text ≢ []
  pub set : text ≢ codes "-"
  pub full : text ≢ codes "(empty)"
  pub alone : All (λ byte. (byte ≢ 9) × (byte ≢ 44) × (byte ≢ 10)) text

-- bytes for strings, and else a text
abbrev pub FitsAtom : Bool → Atom → Type 0
FitsAtom true (Text string) = All (λ byte. byte < 2 ^ 8) string
FitsAtom true (Plain text) = ⊥
FitsAtom false (Text string) = ⊥
FitsAtom false (Plain text) = IsPlain text

abbrev pub FitAtoms : Bool → List Atom → Type 0
FitAtoms strings [] = Unit {0}
FitAtoms strings (atom ∷ atoms) = FitsAtom strings atom × FitAtoms strings atoms

abbrev pub FitsCell : Bool → Bool → Cell → Type 0
FitsCell container strings Unset = Unit {0}
FitsCell true strings (One atom) = ⊥
FitsCell false strings (One atom) = FitsAtom strings atom
FitsCell true strings (Many atoms) = FitAtoms strings atoms
FitsCell false strings (Many atoms) = ⊥

-- each cell fits its column
abbrev pub Fit : List Column → List Cell → Type 0
Fit [] [] = Unit {0}
Fit [] (cell ∷ cells) = ⊥
Fit (column ∷ columns) [] = ⊥
Fit (column ∷ columns) (cell ∷ cells) = FitsCell (is_container column.kind) (is_of_strings column.kind) cell × Fit columns cells
