use Rattle.std.proofs.Common.{Err}
use Rattle.zk_scope.specs.Lent.{declared_of, log_function_of}
use Rattle.zk_check_operators.specs.Views.{typed_of, all_typed}
use Rattle.zk_check_operators.proofs.BothLaws.{along_tells}
use Rattle.zk_typed.specs.declared.rule.Rule.TheVariants as rule
use Rattle.zk_typed.specs.Expressions as rules
use Rattle.zk_check_expressions.specs.Envs.{env_of}
use Rattle.zk_check_expressions.proofs.LogLaws.{more_arguments}
use Rattle.zk_check_expressions.proofs.Refusals.{refused}
use Rattle.zk_check_expressions.proofs.judge.Judge.log_arguments.Goals as goal

pub returns-in-Some : goal.returns-in-Some
returns-in-Some g c =
    rw (more_arguments (rules.expr_to c.args.self.now.depth (env_of c.args.self.now.env.now)) (env_of c.args.self.now.env.now) c.args.place (log_function_of c.args.function)
    (declared_of c.args.word.now.declared.now) c.args.word.now.columns c.args.item.now c.args.others.now c.in-Some.ensures.cases.0)
    (along_tells typed_of all_typed (Err c.refused-refusal.result) c.each_argument.result c.along.result _ _
    (refused typed_of typed_of rule.Arguments c.args.place c.log_item-judged.result c.refused-refusal.result _ c.refused-refusal.ensures c.log_item-judged.ensures) c.each_argument.ensures c.along.ensures)
