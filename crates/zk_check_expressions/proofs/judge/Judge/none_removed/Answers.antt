use Rattle.std.proofs.Common.{Err}
use Rattle.zk_check_operators.specs.Views.{typed_of, all_typed}
use Rattle.zk_check_operators.proofs.BothLaws.{along_tells}
use Rattle.zk_typed.specs.declared.rule.Rule.TheVariants as rule
use Rattle.zk_check_expressions.proofs.Refusals.{broken_is}
use Rattle.zk_check_expressions.proofs.judge.Judge.none_removed.Goals as goal

pub returns : goal.returns
returns g c =
    along_tells typed_of all_typed (Err c.broken-refusal.result) c.each_argument.result c.along.result _ _
    (broken_is (λ (done : Unit {0}). done) typed_of rule.Arguments c.args.place c.broken-refusal.result c.broken-refusal.ensures) c.each_argument.ensures c.along.ensures
