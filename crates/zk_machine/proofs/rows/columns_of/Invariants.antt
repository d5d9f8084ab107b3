use Rattle.std.proofs.Common.{◌≡◌, map, take}
use Rattle.zk_lower.specs.Leaves.{column_of}
use Rattle.zk_machine.proofs.rows.columns_of.Given as goal

abbrev pub invariant-loop-leaf : goal.invariant-loop-leaf
invariant-loop-leaf l = map column_of l.columns.items ≡ map (λ leaf. column_of leaf.now.column) (take l.leaf-index l.leaves)
