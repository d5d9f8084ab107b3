use Rattle.std.proofs.Common.{◌≡◌, ◌++◌, flat_map, take}
use Rattle.zk_typed.specs.Names.{node}
use Rattle.zk_scope.specs.Lent.{home_of, nodes_lent, types_lent}
use Rattle.zk_scope.proofs.node.add_nodes.Given as goal

abbrev pub invariant-loop-tree : goal.invariant-loop-tree
invariant-loop-tree l = nodes_lent l.nodes.items ≡ nodes_lent l.fn.nodes.items ++ flat_map (node (home_of l.home)) (types_lent (take l.tree-index l.trees))
