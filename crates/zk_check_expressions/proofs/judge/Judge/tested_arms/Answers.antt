use Rattle.zk_check_operators.proofs.BothLaws.{both_tell}
use Rattle.zk_check_operators.specs.Views.{typed_of, pair_of}
use Rattle.zk_check_expressions.proofs.judge.Judge.tested_arms.Goals as goal

pub returns : goal.returns
returns g c = both_tell typed_of pair_of c.truth-tested.result c.arms-arms.result c.both.result _ _ c.truth-tested.ensures c.arms-arms.ensures c.both.ensures
