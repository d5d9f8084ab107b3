use Rattle.std.proofs.Common.{◌≡◌, ◌∷◌, ◌++◌, take, flat_map}
use Rattle.zk_value.specs.declared.cell.Cell.{Cell}
use Rattle.zk_ascii.specs.Text.{cell_text}
use Rattle.zk_ascii.proofs.cells.push_cells.Given as goal

abbrev pub invariant-loop-cell : goal.invariant-loop-cell
invariant-loop-cell l = l.out.items ≡ l.initial.out.items ++ flat_map (λ (cell : Cell). 9 ∷ cell_text cell) (take l.cell-index l.rest)
