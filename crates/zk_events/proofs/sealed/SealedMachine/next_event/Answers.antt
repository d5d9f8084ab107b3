use Rattle.zk_events.specs.Sealed.{StandsFor}
use Rattle.zk_events.proofs.sealed.SealedMachine.next_event.Goals as goal

pub returns-clause-some : goal.returns-clause-some
unfolding StandsFor
returns-clause-some c = c.next_event.ensures.some

pub returns-clause-none : goal.returns-clause-none
unfolding StandsFor
returns-clause-none c = c.next_event.ensures.none
