-- As log files have a row that fits, each cell fits its column; and a row is told by its cells as log files have them.
use Rattle.std.proofs.Common.{◌≡◌, Bool, true, false, List, [], ◌∷◌, map, refl, ap}
use Rattle.std.specs.List.{AllByRecursion, AllZip}
use Rattle.zk_ascii.specs.Fits.{is_container, is_of_strings, FitsAtom, FitAtoms, FitsCell, Fit}
use Rattle.zk_ascii.specs.Text.{row_text}
use Rattle.zk_typed.specs.Log as log
use Rattle.zk_typed.specs.Log.{Row}
use Rattle.zk_value.specs.declared.cell.Cell.{Cell}
use Rattle.zk_value.specs.declared.cell.Column.{Column}
use Rattle.zk_sound.specs.Rows.{AtomFits, CellFits, FitsColumn, RowFits, AtomIsBytes, CellIsBytes, shown_atom, shown_cell, shown_column}

-- Cells that fit -----------------------------------------------------------------------------------------------------

atom_shown : (strings : Bool) (one : log.Atom) → AtomFits strings one → AtomIsBytes one → FitsAtom strings (shown_atom one)
atom_shown true (log.Text bytes) fits small = small
atom_shown true (log.Plain text) fits small = absurd fits
atom_shown false (log.Text bytes) fits small = absurd fits
atom_shown false (log.Plain text) fits small = fits

atoms_shown : (strings : Bool) (atoms : List log.Atom) → AllByRecursion (AtomFits strings) atoms → AllByRecursion AtomIsBytes atoms → FitAtoms strings (map shown_atom atoms)
atoms_shown strings [] fits small = tt
atoms_shown strings (one ∷ atoms) fits small = (atom_shown strings one fits.0 small.0, atoms_shown strings atoms fits.1 small.1)

cell_shown : (container strings : Bool) (one : log.Cell) → CellFits container strings one → CellIsBytes one → FitsCell container strings (shown_cell one)
cell_shown container strings log.Unset fits small = tt
cell_shown true strings (log.One one) fits small = absurd fits
cell_shown false strings (log.One one) fits small = atom_shown strings one fits small
cell_shown true strings (log.Many atoms) fits small = atoms_shown strings atoms fits small
cell_shown false strings (log.Many atoms) fits small = absurd fits

pub cells_shown : (columns : List log.Column) (cells : List log.Cell) → AllZip FitsColumn columns cells → AllByRecursion CellIsBytes cells → Fit (map shown_column columns) (map shown_cell cells)
cells_shown [] [] fits small = tt
cells_shown [] (one ∷ cells) fits small = absurd fits
cells_shown (column ∷ columns) [] fits small = absurd fits
cells_shown (column ∷ columns) (one ∷ cells) fits small =
    (cell_shown (is_container column.kind) (is_of_strings column.kind) one fits.0 small.0, cells_shown columns cells fits.1 small.1)

-- Cells by what is shown of them -------------------------------------------------------------------------------------

same_atom : (a b : log.Atom) → shown_atom a ≡ shown_atom b → a ≡ b
same_atom (log.Text x) (log.Text y) e = cc
same_atom (log.Text x) (log.Plain y) e = absurd cc
same_atom (log.Plain x) (log.Text y) e = absurd cc
same_atom (log.Plain x) (log.Plain y) e = cc

same_map : {A B : Type 0} (f : A → B) → ((a b : A) → f a ≡ f b → a ≡ b) → (xs ys : List A) → map f xs ≡ map f ys → xs ≡ ys
same_map f each [] [] e = refl
same_map f each [] (y ∷ ys) e = absurd cc
same_map f each (x ∷ xs) [] e = absurd cc
same_map f each (x ∷ xs) (y ∷ ys) e =
    let head : f x ≡ f y = cc in
    let tail : map f xs ≡ map f ys = cc in
    let first : x ≡ y = each x y head in
    let rest : xs ≡ ys = same_map f each xs ys tail in
    cc

same_cell : (a b : log.Cell) → shown_cell a ≡ shown_cell b → a ≡ b
same_cell log.Unset log.Unset e = refl
same_cell log.Unset (log.One y) e = absurd cc
same_cell log.Unset (log.Many ys) e = absurd cc
same_cell (log.One x) log.Unset e = absurd cc
same_cell (log.One x) (log.One y) e = let inner : shown_atom x ≡ shown_atom y = cc in ap log.One (same_atom x y inner)
same_cell (log.One x) (log.Many ys) e = absurd cc
same_cell (log.Many xs) log.Unset e = absurd cc
same_cell (log.Many xs) (log.One y) e = absurd cc
same_cell (log.Many xs) (log.Many ys) e = let inner : map shown_atom xs ≡ map shown_atom ys = cc in ap log.Many (same_map shown_atom same_atom xs ys inner)

-- rows of the same columns with equal texts
pub same_cells : ((columns : List Column) (a b : List Cell) → Fit columns a → Fit columns b → row_text a ≡ row_text b → a ≡ b)
    → (a b : Row) → RowFits a → RowFits b → AllByRecursion CellIsBytes a.cells → AllByRecursion CellIsBytes b.cells → a.columns ≡ b.columns → row_text (map shown_cell a.cells) ≡ row_text (map shown_cell b.cells) → a.cells ≡ b.cells
same_cells equal a b first second small other columns texts =
    let fits : Fit (map shown_column b.columns) (map shown_cell a.cells) = rw (← columns) (cells_shown a.columns a.cells first small) in
    same_map shown_cell same_cell a.cells b.cells (equal (map shown_column b.columns) (map shown_cell a.cells) (map shown_cell b.cells) fits (cells_shown b.columns b.cells second other) texts)
