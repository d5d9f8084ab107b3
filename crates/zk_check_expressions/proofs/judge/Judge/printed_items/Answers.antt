use Rattle.zk_check_operators.specs.Views.{all_typed}
use Rattle.zk_typed.specs.Making as making
use Rattle.zk_typed.specs.Typing as spec
use Rattle.zk_typed.specs.Expressions as rules
use Rattle.zk_check_expressions.specs.Envs.{env_of}
use Rattle.zk_check_expressions.proofs.Eaches.{each_turn}
use Rattle.zk_check_expressions.proofs.judge.Judge.printed_items.Goals as goal

pub loop-item-preserved : goal.loop-item-preserved
loop-item-preserved g c =
    each_turn (spec.on_item (rules.expr_to c.args.self.now.depth (env_of c.args.self.now.env.now)) (env_of c.args.self.now.env.now) (making.printed (rules.expr_to c.args.self.now.depth (env_of c.args.self.now.env.now)) (env_of c.args.self.now.env.now)))
    c.args.items.now c.loop-item.item-index c.item-item.result c.loop-item.all c.printed_item.result c.with_part-all.result
    c.loop-item-test.true c.item-item.is c.loop-item.invariant c.printed_item.ensures c.with_part-all.ensures
