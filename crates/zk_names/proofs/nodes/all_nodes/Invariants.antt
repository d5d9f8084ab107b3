use Rattle.std.proofs.Common.{◌≡◌, take}
use Rattle.zk_typed.specs.Names.{all_nodes}
use Rattle.zk_scope.specs.Lent.{nodes_lent, stated_lent}
use Rattle.zk_names.proofs.nodes.all_nodes.Given as goal

abbrev pub invariant-loop-one : goal.invariant-loop-one
invariant-loop-one l = nodes_lent l.nodes.items ≡ all_nodes (stated_lent (take l.one-index l.stated))
