use Rattle.std.proofs.Common.{◌≡◌, ◌++◌, map, take}
use Rattle.zk_typed.specs.Columns.{within}
use Rattle.zk_typed.specs.View.{field_of}
use Rattle.zk_lower.specs.Leaves.{leaf_of}
use Rattle.zk_lower.proofs.leaves.add_within.Given as goal

abbrev pub invariant-loop-leaf : goal.invariant-loop-leaf
invariant-loop-leaf l = map leaf_of l.out.items ≡ map leaf_of l.initial.out.items ++ map (within l.number (field_of l.field)) (map leaf_of (take l.leaf-index l.leaf-items))
