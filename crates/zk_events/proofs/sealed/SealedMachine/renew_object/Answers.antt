use Rattle.zk_events.specs.Sealed.{StandsFor}
use Rattle.zk_events.proofs.sealed.SealedMachine.renew_object.Goals as goal

pub returns : goal.returns
unfolding StandsFor
returns c = c.renew_object.ensures.stands
