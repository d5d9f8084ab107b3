-- Rows whose cells fit their columns: no value, or a set or a vector exactly where the column's type is one, of strings exactly
-- where it says so, and of any other value a text that stands for nothing else in a log.
use Rattle.std.specs.Prelude.{◌<◌, ◌^◌, All, Bool, true, false, map}
use Rattle.std.specs.List.{AllByRecursion, AllZip}
use Rattle.zk_ascii.specs.Fits.{IsPlain, is_container, is_of_strings}
use Rattle.zk_typed.specs.Log as log
use Rattle.zk_typed.specs.Log.{Row}
use Rattle.zk_value.specs.declared.cell.Atom.{Atom}
use Rattle.zk_value.specs.declared.cell.Atom.TheVariants as atom
use Rattle.zk_value.specs.declared.cell.Cell.{Cell}
use Rattle.zk_value.specs.declared.cell.Cell.TheVariants as cell
use Rattle.zk_value.specs.declared.cell.Column.{Column}

-- a string for strings, and else a text
abbrev pub AtomFits : Bool → log.Atom → Type 0
AtomFits true (log.Text bytes) = Unit {0}
AtomFits true (log.Plain text) = ⊥
AtomFits false (log.Text bytes) = ⊥
AtomFits false (log.Plain text) = IsPlain text

abbrev pub CellFits : Bool → Bool → log.Cell → Type 0
CellFits container strings log.Unset = Unit {0}
CellFits true strings (log.One one) = ⊥
CellFits false strings (log.One one) = AtomFits strings one
CellFits true strings (log.Many atoms) = AllByRecursion (AtomFits strings) atoms
CellFits false strings (log.Many atoms) = ⊥

abbrev pub FitsColumn : log.Column → log.Cell → Type 0
FitsColumn column one = CellFits (is_container column.kind) (is_of_strings column.kind) one

-- as many cells as columns, each of which fits its column
abbrev pub RowFits : Row → Type 0
RowFits row = AllZip FitsColumn row.columns row.cells

-- Rows as log files have them ---------------------------------------------------------------------------------------

-- the strings in a cell are of bytes
abbrev pub AtomIsBytes : log.Atom → Type 0
AtomIsBytes (log.Text string) = All (λ byte. byte < 2 ^ 8) string
AtomIsBytes (log.Plain text) = Unit {0}

abbrev pub CellIsBytes : log.Cell → Type 0
CellIsBytes log.Unset = Unit {0}
CellIsBytes (log.One one) = AtomIsBytes one
CellIsBytes (log.Many atoms) = AllByRecursion AtomIsBytes atoms

abbrev pub shown_atom : log.Atom → Atom
shown_atom (log.Text bytes) = atom.Text bytes
shown_atom (log.Plain bytes) = atom.Plain bytes

abbrev pub shown_cell : log.Cell → Cell
shown_cell log.Unset = cell.Unset
shown_cell (log.One one) = cell.One (shown_atom one)
shown_cell (log.Many atoms) = cell.Many (map shown_atom atoms)

abbrev pub shown_column : log.Column → Column
shown_column column = record { name = column.name; kind = column.kind; wire = column.wire }
