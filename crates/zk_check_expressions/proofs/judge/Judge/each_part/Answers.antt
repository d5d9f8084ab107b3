use Rattle.zk_typed.specs.Expressions as rules
use Rattle.zk_typed.specs.Typing as spec
use Rattle.zk_check_expressions.specs.Envs.{env_of}
use Rattle.zk_check_expressions.proofs.Eaches.{each_turn}
use Rattle.zk_check_expressions.proofs.judge.Judge.each_part.Goals as goal

pub loop-one-preserved : goal.loop-one-preserved
loop-one-preserved g c =
    each_turn (rules.expr_to c.args.self.now.depth (env_of c.args.self.now.env.now) spec.Nothing)
    c.args.ones.now c.loop-one.one-index c.one-item.result c.loop-one.all c.check.result c.with_part-all.result
    c.loop-one-test.true c.one-item.is c.loop-one.invariant c.check.ensures c.with_part-all.ensures
