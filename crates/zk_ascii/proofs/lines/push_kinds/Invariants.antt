use Rattle.std.proofs.Common.{◌≡◌, ◌∷◌, ◌++◌, take, flat_map}
use Rattle.zk_value.specs.declared.cell.Column.{Column}
use Rattle.zk_ascii.proofs.lines.push_kinds.Given as goal

abbrev pub invariant-loop-column : goal.invariant-loop-column
invariant-loop-column l = l.out.items ≡ l.initial.out.items ++ flat_map (λ (column : Column). 9 ∷ column.kind) (take l.column-index l.columns)
