use Rattle.std.proofs.Common.{◌==◌, length}
use Rattle.zk_check_operators.specs.Views.{typed_of, all_typed}
use Rattle.zk_check_operators.proofs.BothLaws.{along_tells}
use Rattle.zk_typed.specs.declared.rule.Rule.TheVariants as rule
use Rattle.zk_check_expressions.proofs.Refusals.{held}
use Rattle.zk_check_expressions.proofs.judge.Judge.lone_argument.Goals as goal

pub returns : goal.returns
returns g c =
    along_tells typed_of all_typed c.with_rule-alone.result c.each_argument-others.result c.along.result _ _
    (held typed_of (length c.args.others.now == 0) rule.Arguments c.args.place c.argument-one.result c.with_rule-alone.result _ c.with_rule-alone.ensures c.argument-one.ensures) c.each_argument-others.ensures c.along.ensures
