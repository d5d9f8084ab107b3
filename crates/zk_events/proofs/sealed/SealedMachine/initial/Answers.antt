use Rattle.zk_events.specs.Sealed.{StandsFor}
use Rattle.zk_events.proofs.sealed.SealedMachine.initial.Goals as goal

pub returns-clause-stands : goal.returns-clause-stands
unfolding StandsFor
returns-clause-stands c = c.in_ok-initial.ensures.stands
