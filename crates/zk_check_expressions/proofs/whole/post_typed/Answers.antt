use Rattle.zk_typed.specs.Within.{depth_max}
use Rattle.zk_check_expressions.proofs.whole.post_typed.Goals as goal

pub returns : goal.returns
unfolding depth_max
returns c = c.post_typed.ensures
