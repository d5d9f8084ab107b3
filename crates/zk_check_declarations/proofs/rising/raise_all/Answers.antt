use Rattle.std.proofs.Common.{nat_lt}
use Rattle.zk_check_declarations.specs.Edges.{edge_at}
use Rattle.zk_check_declarations.specs.Heights.{height_at, is_raised}
use Rattle.zk_check_declarations.proofs.HeightLaws.{any_turn}
use Rattle.zk_check_declarations.proofs.rising.raise_all.Goals as goal

pub loop-edge-preserved : goal.loop-edge-preserved
loop-edge-preserved c = λ number most.
    any_turn (is_raised c.args.heights.now.heights.items most) (edge_at number) c.args.edges.now c.loop-edge.edge-index c.edge-item.result
    (nat_lt most (height_at c.args.next.now number)) (nat_lt most (height_at c.loop-edge.next number)) (nat_lt most (height_at c.raise.new.next number))
    c.loop-edge-test.true c.edge-item.is (c.loop-edge.invariant number most) (c.in_ok-raise.ensures.raised number most)
