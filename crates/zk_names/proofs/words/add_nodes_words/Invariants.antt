use Rattle.std.proofs.Common.{◌≡◌, ◌++◌, flat_map, take}
use Rattle.zk_typed.specs.Declaring.{node_words}
use Rattle.zk_scope.specs.Lent.{declared_lent, nodes_lent}
use Rattle.zk_scope.specs.Scripted.{scripts_in}
use Rattle.zk_names.proofs.words.add_nodes_words.Given as goal

abbrev pub invariant-loop-node : goal.invariant-loop-node
invariant-loop-node l = declared_lent l.table.names.items ≡ declared_lent l.fn.table.names.items ++ flat_map (node_words (scripts_in l.known).nodes) (nodes_lent (take l.node-index l.own))
