use Rattle.zk_check_operators.proofs.BothLaws.{both_tell}
use Rattle.zk_check_operators.specs.Views.{typed_of}
use Rattle.zk_check_expressions.proofs.judge.Judge.both_parts.Goals as goal

pub returns : goal.returns
returns g c = both_tell typed_of typed_of c.check-one.result c.check-other.result c.both.result _ _ c.check-one.ensures c.check-other.ensures c.both.ensures
