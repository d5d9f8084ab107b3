use Rattle.std.proofs.Common.{arith}
use Rattle.zk_check.proofs.SoonerLaws.{first_turn}
use Rattle.zk_check.proofs.rules.least.first_told.Goals as goal

pub loop-at-preserved : goal.loop-at-preserved
loop-at-preserved c = record {
  within = omega arith;
  first = first_turn c.args.rules.now c.loop-at.at c.loop-at.first c.sooner.result _ c.loop-at-test.true c.loop-at.invariant.within c.loop-at.invariant.first c.sooner.ensures;
}
