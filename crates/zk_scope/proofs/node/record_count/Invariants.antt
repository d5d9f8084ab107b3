use Rattle.std.proofs.Common.{◌≡◌, ◌+◌, length, filter, take}
use Rattle.zk_typed.specs.Names.{is_record}
use Rattle.zk_scope.specs.Lent.{nodes_lent}
use Rattle.zk_scope.proofs.node.record_count.Given as goal

abbrev pub invariant-loop-node : goal.invariant-loop-node
invariant-loop-node l = l.count ≡ 8 + length (filter is_record (nodes_lent (take l.node-index l.nodes)))
