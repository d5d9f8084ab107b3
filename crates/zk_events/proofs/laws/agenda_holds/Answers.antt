use Rattle.zk_events.proofs.TurnedLemmas.{events_once, runs_by_turns, time_never_falls}
use Rattle.zk_events.proofs.laws.agenda_holds.Goals as goal

pub returns-clause-turns : goal.returns-clause-turns
returns-clause-turns c = runs_by_turns

pub returns-clause-once : goal.returns-clause-once
returns-clause-once c = events_once c.dispatched_once.ensures

pub returns-clause-time : goal.returns-clause-time
returns-clause-time c = time_never_falls c.time_rises.ensures
