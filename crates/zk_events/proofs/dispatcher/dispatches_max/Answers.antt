use Rattle.std.proofs.Common.{refl}
use Rattle.zk_typed.specs.Running.{dispatches_max}
use Rattle.zk_events.proofs.dispatcher.dispatches_max.Goals as goal

pub returns : goal.returns
unfolding dispatches_max
returns c = refl
