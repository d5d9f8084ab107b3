use Rattle.std.proofs.Common.{◌≡◌, ◌++◌, flat_map, take}
use Rattle.zk_typed.specs.Errors.{node_names}
use Rattle.zk_scope.specs.Lent.{home_of, nodes_lent}
use Rattle.zk_check_declarations.specs.Naming.{all_named}
use Rattle.zk_check_declarations.proofs.naming.add_nodes_names.Given as goal

abbrev pub invariant-loop-node : goal.invariant-loop-node
invariant-loop-node l = all_named l.names.items ≡ all_named l.fn.names.items ++ flat_map (node_names (home_of l.home)) (nodes_lent (take l.node-index l.nodes))
