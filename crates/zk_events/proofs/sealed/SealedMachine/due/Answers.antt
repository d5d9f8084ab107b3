use Rattle.zk_events.specs.Sealed.{StandsFor}
use Rattle.zk_events.proofs.sealed.SealedMachine.due.Goals as goal

pub returns-clause-next : goal.returns-clause-next
unfolding StandsFor
returns-clause-next c = c.due.ensures.next

pub returns-clause-event : goal.returns-clause-event
unfolding StandsFor
returns-clause-event c = c.due.ensures.event
