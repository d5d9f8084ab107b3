use Rattle.zk_events.specs.Sealed.{StandsFor}
use Rattle.zk_events.proofs.sealed.SealedMachine.wind_up.Goals as goal

pub returns : goal.returns
unfolding StandsFor
returns c = c.wind_up.ensures.stands
