use Rattle.zk_check_operators.specs.Views.{wanted_in}
use Rattle.zk_typed.specs.Expressions as rules
use Rattle.zk_typed.specs.LogCalls.{item_expr}
use Rattle.zk_check_expressions.specs.Envs.{env_of}
use Rattle.zk_check_expressions.proofs.Eaches.{each_turn}
use Rattle.zk_check_expressions.proofs.judge.Judge.item_values.Goals as goal

pub loop-item-preserved : goal.loop-item-preserved
loop-item-preserved g c =
    each_turn (λ item. rules.expr_to c.args.self.now.depth (env_of c.args.self.now.env.now) (wanted_in c.args.wanted) (item_expr item))
    c.args.items.now c.loop-item.item-index c.item-item.result c.loop-item.all c.item_value.result c.with_part-all.result
    c.loop-item-test.true c.item-item.is c.loop-item.invariant c.item_value.ensures c.with_part-all.ensures
