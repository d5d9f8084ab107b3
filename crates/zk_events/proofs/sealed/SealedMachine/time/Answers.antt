use Rattle.zk_events.specs.Sealed.{StandsFor}
use Rattle.zk_events.proofs.sealed.SealedMachine.time.Goals as goal

pub returns : goal.returns
unfolding StandsFor
returns c = c.time.ensures
