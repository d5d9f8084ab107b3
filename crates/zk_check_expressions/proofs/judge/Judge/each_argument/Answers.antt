use Rattle.zk_check_operators.specs.Views.{wanted_in}
use Rattle.zk_typed.specs.Expressions as rules
use Rattle.zk_typed.specs.Making as making
use Rattle.zk_check_expressions.specs.Envs.{env_of}
use Rattle.zk_check_expressions.proofs.Eaches.{each_turn}
use Rattle.zk_check_expressions.proofs.judge.Judge.each_argument.Goals as goal

pub loop-item-preserved : goal.loop-item-preserved
loop-item-preserved g c =
    each_turn (making.argument (rules.expr_to c.args.self.now.depth (env_of c.args.self.now.env.now)) (env_of c.args.self.now.env.now) (wanted_in c.args.wanted))
    c.args.items.now c.loop-item.item-index c.item-item.result c.loop-item.all c.argument.result c.with_part-all.result
    c.loop-item-test.true c.item-item.is c.loop-item.invariant c.argument.ensures c.with_part-all.ensures
