use Rattle.zk_events.specs.Sealed.{StandsFor}
use Rattle.zk_events.proofs.sealed.SealedMachine.fresh_object.Goals as goal

pub returns-clause-number : goal.returns-clause-number
unfolding StandsFor
returns-clause-number c = c.fresh_object.ensures.number

pub returns-clause-stands : goal.returns-clause-stands
unfolding StandsFor
returns-clause-stands c = c.fresh_object.ensures.stands
