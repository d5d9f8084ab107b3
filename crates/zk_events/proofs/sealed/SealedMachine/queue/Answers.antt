use Rattle.zk_events.specs.Sealed.{StandsFor}
use Rattle.zk_events.proofs.sealed.SealedMachine.queue.Goals as goal

pub returns : goal.returns
unfolding StandsFor
returns c = c.queue.ensures.stands
