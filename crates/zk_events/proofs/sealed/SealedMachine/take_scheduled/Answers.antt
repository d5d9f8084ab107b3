use Rattle.zk_events.specs.Sealed.{StandsFor}
use Rattle.zk_events.proofs.sealed.SealedMachine.take_scheduled.Goals as goal

pub returns : goal.returns
unfolding StandsFor
returns c = c.take_scheduled.ensures.stands
