-- The text of a log file (Zeek manual, Log Files).
use Rattle.std.specs.Prelude.{ℕ, true, false, List, [], ◌∷◌, ◌++◌, codes}
use Rattle.std.specs.List.{flat_map}
use Rattle.zk_base.specs.declared.time.Moment.{Moment}
use Rattle.zk_text.specs.Escape.{escaped}
use Rattle.zk_value.specs.declared.cell.Atom.{Atom}
use Rattle.zk_value.specs.declared.cell.Atom.TheVariants.{Text, Plain}
use Rattle.zk_value.specs.declared.cell.Cell.{Cell}
use Rattle.zk_value.specs.declared.cell.Cell.TheVariants.{Unset, One, Many}
use Rattle.zk_value.specs.declared.cell.Column.{Column}
use Rattle.zk_ascii.specs.Dates.{stamp}

-- Cells ------------------------------------------------------------------------------------------------------------

-- a string that stands alone
abbrev pub string_text : List ℕ → List ℕ
string_text [] = codes "(empty)"
string_text (byte ∷ bytes) = escaped false (byte ∷ bytes)

-- a value that stands alone
abbrev pub atom_text : Atom → List ℕ
atom_text (Text string) = string_text string
atom_text (Plain text) = text

-- an element of a set or a vector, where an empty string is written as nothing
abbrev pub element_text : Atom → List ℕ
element_text (Text string) = escaped true string
element_text (Plain text) = text

-- the elements of a set or a vector, with commas between them
abbrev pub atoms_text : List Atom → List ℕ
atoms_text [] = codes "(empty)"
atoms_text (atom ∷ atoms) = element_text atom ++ flat_map (λ other. 44 ∷ element_text other) atoms

abbrev pub cell_text : Cell → List ℕ
cell_text Unset = codes "-"
cell_text (One atom) = atom_text atom
cell_text (Many atoms) = atoms_text atoms

-- Lines ------------------------------------------------------------------------------------------------------------

-- the cells of a row, with tabs between them
abbrev pub cells_text : List Cell → List ℕ
cells_text [] = []
cells_text (cell ∷ cells) = cell_text cell ++ flat_map (λ other. 9 ∷ cell_text other) cells

abbrev pub row_text : List Cell → List ℕ
row_text cells = cells_text cells ++ codes "\n"

-- the lines that begin a log, where a log without columns has the bare words
abbrev pub header_text : List ℕ → List Column → Moment → List ℕ
header_text path columns opened =
    codes "#separator \\x09\n#set_separator\t,\n#empty_field\t(empty)\n"
    ++ codes "#unset_field\t-\n#path\t" ++ path
    ++ codes "\n#open\t" ++ stamp opened
    ++ codes "\n#fields" ++ flat_map (λ column. 9 ∷ column.name) columns
    ++ codes "\n#types" ++ flat_map (λ column. 9 ∷ column.kind) columns
    ++ codes "\n"

-- the line that ends it
abbrev pub close_text : Moment → List ℕ
close_text at = codes "#close\t" ++ stamp at ++ codes "\n"

-- Files ------------------------------------------------------------------------------------------------------------

-- a row of the log of a path, at its network time
pub record Row : Type 0 where
  pub columns : List Column
  pub cells : List Cell
  pub at : Moment

-- The log of a path with these rows, closed at a moment: the first row says its columns and when it was opened. Without rows
-- there is no file.
abbrev pub log_text : List ℕ → List Row → Moment → List ℕ
log_text path [] end = []
log_text path (row ∷ rows) end =
    header_text path row.columns row.at ++ flat_map (λ one. row_text one.cells) (row ∷ rows) ++ close_text end
