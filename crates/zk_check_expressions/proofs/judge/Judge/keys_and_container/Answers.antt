use Rattle.zk_check_operators.proofs.BothLaws.{both_tell}
use Rattle.zk_check_operators.specs.Views.{typed_of, all_typed}
use Rattle.zk_check_expressions.proofs.judge.Judge.keys_and_container.Goals as goal

pub returns : goal.returns
returns g c = both_tell all_typed typed_of c.left_of_in-keys.result c.check-one.result c.both.result _ _ c.left_of_in-keys.ensures c.check-one.ensures c.both.ensures
