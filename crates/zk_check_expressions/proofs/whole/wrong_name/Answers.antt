use Rattle.zk_typed.specs.Within.{depth_max}
use Rattle.zk_check_expressions.proofs.whole.wrong_name.Goals as goal

pub returns : goal.returns
unfolding depth_max
returns c = c.wrong_name.ensures
