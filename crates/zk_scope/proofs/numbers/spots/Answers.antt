use Rattle.std.proofs.Common.{subst, take}
use Rattle.zk_scope.specs.Lent.{node_of, nodes_lent}
use Rattle.zk_scope.specs.Numbering.{Stands, own_spot, spot_eq, spots}
use Rattle.zk_scope.proofs.PlaceLaws.{one_more_item}
use Rattle.zk_scope.proofs.numbers.spots.Goals as goal

pub loop-node-preserved : goal.loop-node-preserved
loop-node-preserved c =
    subst (Stands spot_eq c.add_spot.new.found) (one_more_item node_of (own_spot c.args.records) c.args.nodes.now c.loop-node.node-index c.node-item.result c.loop-node-test.true c.node-item.is)
    (c.in_ok-add_spot.ensures (spots c.args.records (nodes_lent (take c.loop-node.node-index c.args.nodes.now))) c.loop-node.invariant)
