use Rattle.zk_check_operators.proofs.BothLaws.{both_tell}
use Rattle.zk_check_operators.specs.Views.{typed_of}
use Rattle.zk_check_expressions.proofs.judge.Judge.truth_linked.Goals as goal

pub returns : goal.returns
returns g c given h =
    c.truths_of.ensures _ (both_tell typed_of typed_of c.as_truth-one.result c.truth-other.result c.both-pair.result _ _ (c.as_truth-one.ensures given h) c.truth-other.ensures c.both-pair.ensures)
