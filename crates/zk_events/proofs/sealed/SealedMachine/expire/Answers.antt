use Rattle.zk_events.specs.Sealed.{StandsFor}
use Rattle.zk_events.proofs.sealed.SealedMachine.expire.Goals as goal

pub returns : goal.returns
unfolding StandsFor
returns c = c.in_ok-expire.ensures.stands
