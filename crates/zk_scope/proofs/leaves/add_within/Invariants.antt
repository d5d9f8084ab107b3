use Rattle.std.proofs.Common.{◌≡◌, ◌++◌, map, take}
use Rattle.zk_typed.specs.LogCalls.{within}
use Rattle.zk_scope.specs.Fields.{field_of}
use Rattle.zk_scope.specs.Leaves.{leaves_lent}
use Rattle.zk_scope.proofs.leaves.add_within.Given as goal

abbrev pub invariant-loop-leaf : goal.invariant-loop-leaf
invariant-loop-leaf l = leaves_lent l.all.items ≡ leaves_lent l.fn.all.items ++ map (within (field_of l.field)) (leaves_lent (take l.leaf-index l.leaves))
