use Rattle.zk_typed.specs.Within.{depth_max}
use Rattle.zk_check_expressions.proofs.whole.each_printed.Goals as goal

pub returns : goal.returns
unfolding depth_max
returns c = c.each_printed.ensures
