use Rattle.zk_typed.specs.Within.{depth_max}
use Rattle.zk_check_expressions.proofs.whole.rest_of.Goals as goal

pub returns : goal.returns
unfolding depth_max
returns c = c.rest_of.ensures
