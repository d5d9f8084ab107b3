use Rattle.std.proofs.Common.{◌≡◌, ◌+◌, ◌≤◌, length, filter, take, rules, arith, sym, ◌∙◌}
use Rattle.zk_typed.specs.Names.{is_record}
use Rattle.zk_scope.specs.Lent.{node_of, nodes_lent}
use Rattle.zk_scope.proofs.PassingLaws.{fewer_before}
use Rattle.zk_scope.proofs.node.record_count.Goals as goal

pub returns-in_default-clause-err : goal.returns-in_default-clause-err
returns-in_default-clause-err c =
    let nodes = c.args.nodes.now in
    let more : length (filter is_record (nodes_lent (take c.loop-node.node-index nodes))) + 1 ≤ length (filter is_record (nodes_lent nodes)) =
    fewer_before node_of is_record nodes c.loop-node.node-index c.node-item.result c.loop-node-test.true c.node-item.is (sym c.is_record.ensures ∙ c.if-is_record.true) in
    let past : 4294967296 ≤ c.loop-node.count + 1 = search rules in
    omega (arith, more, past, c.loop-node.invariant)
