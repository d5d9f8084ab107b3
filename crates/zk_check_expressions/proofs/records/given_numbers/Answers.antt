use Rattle.zk_check_expressions.proofs.MarkLaws.{numbers_turn}
use Rattle.zk_check_expressions.proofs.records.given_numbers.Goals as goal

pub loop-one-preserved : goal.loop-one-preserved
loop-one-preserved c =
    numbers_turn c.loop-one.marked c.mark.new.marked c.args.given.now c.loop-one.one-index c.one-item.result c.loop-one-test.true c.one-item.is (c.in_ok-mark.ensures _ c.loop-one.invariant).1
