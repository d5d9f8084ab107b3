use Rattle.zk_typed.specs.Making as making
use Rattle.zk_scope.specs.Fields.{fields_lent}
use Rattle.zk_check_expressions.specs.Records.{all_given_of}
use Rattle.zk_typed.specs.Expressions as rules
use Rattle.zk_check_expressions.specs.Envs.{env_of}
use Rattle.zk_check_expressions.proofs.Eaches.{given_turn}
use Rattle.zk_check_expressions.proofs.judge.Judge.each_given.Goals as goal

pub loop-item-preserved : goal.loop-item-preserved
loop-item-preserved g c =
    given_turn (making.given_field (rules.expr_to c.args.self.now.depth (env_of c.args.self.now.env.now)) (env_of c.args.self.now.env.now) (fields_lent c.args.fields.now))
    c.args.items.now c.loop-item.item-index c.item-item.result c.loop-item.all c.given_field.result c.with_part-all.result
    c.loop-item-test.true c.item-item.is c.loop-item.invariant c.given_field.ensures c.with_part-all.ensures
