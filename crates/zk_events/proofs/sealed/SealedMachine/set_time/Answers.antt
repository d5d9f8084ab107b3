use Rattle.zk_events.specs.Sealed.{StandsFor}
use Rattle.zk_events.proofs.sealed.SealedMachine.set_time.Goals as goal

pub returns : goal.returns
unfolding StandsFor
returns c = c.set_time.ensures.stands
