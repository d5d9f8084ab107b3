use Rattle.std.proofs.Common.{◌≡◌, ◌++◌, flat_map, take}
use Rattle.zk_typed.specs.Within.{within}
use Rattle.zk_scope.specs.Lent.{types_lent}
use Rattle.zk_scope.proofs.node.all_within.Given as goal

abbrev pub invariant-loop-tree : goal.invariant-loop-tree
invariant-loop-tree l = types_lent l.found.items ≡ types_lent l.fn.found.items ++ flat_map within (types_lent (take l.tree-index l.trees))
