-- How a program plays.
use Rattle.std.proofs.Common.{◌≡◌, ℕ, List, [], ◌∷◌, ◌++◌, map, refl, ap, subst, ◌∙◌, append-nil}
use Rattle.std.proofs.lemmas.List.{map-append}
use Rattle.std.proofs.lemmas.List.Concat.{flat_map-append}
use Rattle.zk_base.specs.Shelf.{Outside}
use Rattle.zk_events.specs.Run.{Stage, New, Begun, progress_at}
use Rattle.zk_events.specs.Laws as laws
use Rattle.zk_logs.specs.Logs.{Row}
use Rattle.zk_lower.specs.Told.{Told, Stays}
use Rattle.zk_lower.specs.Leaves.{column_of}
use Rattle.zk_machine.specs.State.{atom_of, cell_of}
use Rattle.zk_machine.specs.Standing.{with_out}
use Rattle.zk_typed.specs.Log as log
use Rattle.zk_typed.specs.Program.{Program}
use Rattle.zk_typed.specs.State.{World}
use Rattle.zk_value.specs.declared.cell.Atom.{Atom}
use Rattle.zk_value.specs.declared.cell.Atom.TheVariants as atom
use Rattle.zk_value.specs.declared.cell.Cell.{Cell}
use Rattle.zk_value.specs.declared.cell.Cell.TheVariants as cell
use Rattle.zk_value.specs.declared.cell.Column.{Column}
use Rattle.zk_value.specs.declared.out.Out.{Out}
use Rattle.zk_value.specs.declared.out.Out.TheVariants as out
use Rattle.zk_outcome.specs.declared.stop.Stop.TheVariants.{NoMemory}
use Rattle.zk_outcome.proofs.Doing.{prefix_none}
use Rattle.zk_top.specs.declared.player.Player.{Player}
use Rattle.zk_io.specs.Said.{line_end}
use Rattle.zk_top.specs.Logged.{dated, shown_atom, shown_cell, shown_column, shown_row}
use Rattle.zk_top.specs.Printed.{with_line_ends}
use Rattle.zk_top.specs.Replay.{Plays, output_at, told_at}
use Rattle.zk_top.specs.Sink.{Beginning, HasTaken, TakesSome}
use Rattle.zk_top.specs.Writing.{Begins, and_out, output_of, told_by}
use Rattle.zk_top.proofs.Taking.{taken_without_memory}

-- What was told ---------------------------------------------------------------------------------------------------------

pub text_of_more : (lines more : List (List ℕ)) → with_line_ends (lines ++ more) ≡ with_line_ends lines ++ with_line_ends more
text_of_more lines more = flat_map-append (λ line. line ++ line_end) lines more

-- what was told first is given out first
pub told_begins : (told more all : Told) → all.lines ≡ told.lines ++ more.lines → all.rows ≡ told.rows ++ more.rows → Begins (output_of told) (output_of all)
told_begins told more all lines rows = record {
  text = record { rest = with_line_ends more.lines; joined = ap with_line_ends lines ∙ text_of_more told.lines more.lines };
  rows = record { rest = map shown_row more.rows; joined = ap (λ xs. map shown_row xs) rows ∙ map-append shown_row told.rows more.rows };
}

-- what stays of a world
pub stays_begins : (before after : World) → Stays before after → Begins (output_of (told_by before)) (output_of (told_by after))
stays_begins before after stays = told_begins (told_by before) stays.more (told_by after) stays.lines stays.rows

-- what was given out of a run
pub given_begins : (program : Program) (budget : ℕ) (stage : Stage) (told : Told) → laws.Begins told (progress_at program budget stage) → Begins (output_of told) (output_at program budget stage)
given_begins program budget stage told begins = told_begins told begins.more (told_at program budget stage) begins.lines begins.rows

-- One line or row more ---------------------------------------------------------------------------------------------------

atom_again : (atom : Atom) → shown_atom (atom_of atom) ≡ atom
atom_again (atom.Text bytes) = refl
atom_again (atom.Plain bytes) = refl

atoms_again : (atoms : List Atom) → map shown_atom (map atom_of atoms) ≡ atoms
atoms_again [] = refl
atoms_again (atom ∷ others) = let same = atom_again atom in let more = atoms_again others in cc

cell_again : (one : Cell) → shown_cell (cell_of one) ≡ one
cell_again cell.Unset = refl
cell_again (cell.One atom) = ap cell.One (atom_again atom)
cell_again (cell.Many atoms) = ap cell.Many (atoms_again atoms)

cells_again : (cells : List Cell) → map shown_cell (map cell_of cells) ≡ cells
cells_again [] = refl
cells_again (one ∷ others) = let same = cell_again one in let more = cells_again others in cc

columns_again : (columns : List Column) → map shown_column (map column_of columns) ≡ columns
columns_again [] = refl
columns_again (one ∷ others) = ap (λ (xs : List Column). one ∷ xs) (columns_again others)

-- what is told more is given out more
pub told_more : (told : Told) (one : Out) → output_of (with_out told one) ≡ and_out (output_of told) one
told_more told (out.Line line) =
    let text : with_line_ends (told.lines ++ line ∷ []) ≡ with_line_ends told.lines ++ (line ++ line_end) =
    text_of_more told.lines (line ∷ []) ∙ ap (λ more. with_line_ends told.lines ++ more) (append-nil (line ++ line_end)) in
    ap (λ said. record { text = said; rows = map shown_row (told.rows ++ []) }) text
    ∙ ap (λ (rows : List log.Row). record { text = with_line_ends told.lines ++ (line ++ line_end); rows = map shown_row rows }) (append-nil told.rows)
told_more told (out.Row path columns cells at) =
    let Shown : Type 0 = Row in
    let row : List Column → List Cell → Row = λ cs vs. record { path = path; columns = cs; cells = vs; at = dated at } in
    let written : map shown_row (told.rows ++ (record { path = path; columns = map column_of columns; cells = map cell_of cells; at = at } ∷ [])) ≡ map shown_row told.rows ++ row columns cells ∷ [] =
    map-append shown_row told.rows _
    ∙ ap (λ cs. map shown_row told.rows ++ row cs (map shown_cell (map cell_of cells)) ∷ []) (columns_again columns)
    ∙ ap (λ vs. map shown_row told.rows ++ row columns vs ∷ []) (cells_again cells) in
    ap (λ rows. record { text = with_line_ends (told.lines ++ []); rows = rows }) written
    ∙ ap (λ (lines : List (List ℕ)). record { text = with_line_ends lines; rows = map shown_row told.rows ++ row columns cells ∷ [] }) (append-nil told.lines)

-- Playing ----------------------------------------------------------------------------------------------------------------

-- what a program has given out that has given all
pub plays_given : (first : Beginning) (program : Program) (budget : ℕ) (stage : Stage) (player : Player) (now : Outside) → Plays first program budget stage player now
    → HasTaken first (output_at program budget stage) player.sink now
plays_given first program budget stage player now plays = subst (λ told. HasTaken first (output_of told) player.sink now) plays.all plays.gives.given

-- memory ran out while the engine went on
pub memory_in_play : (first : Beginning) (program : Program) (budget : ℕ) (stage later : Stage) (player : Player) (now : Outside) → Plays first program budget stage player now
    → Begins (output_at program budget stage) (output_at program budget later) → TakesSome (output_at program budget later) first NoMemory now
memory_in_play first program budget stage later player now plays begins =
    taken_without_memory first (output_at program budget stage) (output_at program budget later) player.sink now
    (plays_given first program budget stage player now plays) begins

-- nothing is given out before the beginning
pub given_at_first : (program : Program) (budget : ℕ) → Begins (output_at program budget New) (output_at program budget (Begun []))
given_at_first program budget = record { text = prefix_none (output_at program budget (Begun [])).text; rows = prefix_none (output_at program budget (Begun [])).rows }

-- what was told is all
pub told_same : (told : Told) (world : World) → told.lines ≡ world.lines → told.rows ≡ world.rows → told ≡ told_by world
told_same told world lines rows =
    ap (λ (ls : List (List ℕ)). record { lines = ls; rows = told.rows }) lines ∙ ap (λ (rs : List log.Row). record { lines = world.lines; rows = rs }) rows
