use Rattle.zk_check_operators.proofs.BothLaws.{both_tell}
use Rattle.zk_check_operators.specs.Views.{typed_of, all_typed}
use Rattle.zk_check_expressions.proofs.judge.Judge.with_keys.Goals as goal

pub returns : goal.returns
returns g c given h = both_tell typed_of all_typed c.args.before c.each_part-judged.result c.both.result _ _ h c.each_part-judged.ensures c.both.ensures
