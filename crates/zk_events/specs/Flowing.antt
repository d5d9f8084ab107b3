-- How far a dispatcher comes.
use Rattle.std.specs.Prelude.{◌≡◌, Bool, true, int_le, List, Some}
use Rattle.zk_base.specs.declared.time.Moment.{Moment}
use Rattle.zk_lower.specs.Told.{Told}
use Rattle.zk_machine.specs.Schedule.{event_numbered}
use Rattle.zk_machine.specs.declared.due.DueKind.{DueKind}
use Rattle.zk_machine.specs.declared.due.DueKind.TheVariants as kind
use Rattle.zk_events.specs.Sealed.{StandsFor}
use Rattle.zk_typed.specs.Program.{Program}
use Rattle.zk_typed.specs.Running.{Due, EntryDue, EventDue, Progress, Goes, Floods}
use Rattle.zk_typed.specs.State.{World, with_queue}
use Rattle.zk_typed.specs.World.{Queued}
use Rattle.zk_events.specs.declared.dispatcher.Dispatcher.{Dispatcher}
use Rattle.zk_events.specs.declared.dispatcher.Flow.{Flow}
use Rattle.zk_events.specs.declared.dispatcher.Flow.TheVariants as flow
use Rattle.zk_events.specs.declared.dispatcher.Until.{Until}
use Rattle.zk_events.specs.declared.dispatcher.Until.TheVariants as until

-- what is due comes before an item, and all comes at the end
abbrev pub is_due : Until → Moment → Bool
is_due (until.Item moment) due = int_le due.0 moment.0
is_due (until.End last) due = true

abbrev pub time_at : Until → Moment → Moment
time_at (until.Item moment) due = due
time_at (until.End last) due = last

-- what is due as the machine tells it
abbrev pub IsTold : DueKind → Due → World → Type 0
IsTold what (EntryDue table order) world = what ≡ kind.Entry table order
IsTold what (EventDue one) world = (what ≡ kind.Scheduled one.order) × (event_numbered one.order world.scheduled ≡ Some one)

-- The run goes on, to a world that the machine stands for.
pub record Flows (dispatcher : Dispatcher) (program : Program) (given : Told) (progress : Progress) : Type 0 where
  pub world : World
  pub comes : progress ≡ Goes world dispatcher.left
  pub stands : StandsFor dispatcher.machine program given world

-- It has ended in a flood. Of the queue, which no one takes from any more, nothing is said.
pub record Flooded (dispatcher : Dispatcher) (program : Program) (given : Told) (progress : Progress) : Type 0 where
  pub world : World
  pub waiting : List Queued
  pub comes : progress ≡ Floods world
  pub stands : StandsFor dispatcher.machine program given (with_queue waiting world)

abbrev pub FlowsTo : Flow → Dispatcher → Program → Told → Progress → Type 0
FlowsTo flow.Goes dispatcher program given progress = Flows dispatcher program given progress
FlowsTo flow.Floods dispatcher program given progress = Flooded dispatcher program given progress
