use Rattle.std.proofs.Common.{refl}
use Rattle.zk_check_operators.specs.Views.{all_typed}
use Rattle.zk_typed.specs.Expressions as rules
use Rattle.zk_typed.specs.Making.{made_by, item_values}
use Rattle.zk_typed.specs.Typing.{Unclear}
use Rattle.zk_typed.specs.View.{type_of}
use Rattle.zk_check_expressions.specs.Envs.{env_of, called_of}
use Rattle.zk_check_expressions.proofs.Refusals.{behind_broken}
use Rattle.zk_check_expressions.proofs.judge.Judge.broken_constructor.Goals as goal

pub returns : goal.returns
returns g c told h =
    behind_broken type_of all_typed called_of c.args.refusal c.item_values-items.result c.along.result
    (made_by (rules.expr_to c.args.self.now.depth (env_of c.args.self.now.env.now)) (env_of c.args.self.now.env.now) c.args.place c.args.items.now)
    (item_values (rules.expr_to c.args.self.now.depth (env_of c.args.self.now.env.now)) Unclear c.args.items.now) told (λ rules. refl) h c.item_values-items.ensures c.along.ensures
