use Rattle.std.proofs.Common.{◌≡◌, ℕ, Some, sym, subst}
use Rattle.std.proofs.lemmas.Result.{on_ok_weaker}
use Rattle.zk_base.specs.declared.time.Moment.{Moment}
use Rattle.zk_lower.specs.Told.{Told}
use Rattle.zk_machine.specs.Queued.{queued_of}
use Rattle.zk_machine.specs.Schedule.{event_numbered}
use Rattle.zk_machine.specs.declared.due.DueKind.{DueKind}
use Rattle.zk_machine.specs.declared.due.DueKind.TheVariants as kind
use Rattle.zk_machine.specs.declared.queued.Queued as rust
use Rattle.zk_typed.specs.Dispatch.{dispatch}
use Rattle.zk_typed.specs.Program.{Program}
use Rattle.zk_typed.specs.Running.{Due, EntryDue, EventDue, happens, not_waiting}
use Rattle.zk_typed.specs.State.{World, with_time}
use Rattle.zk_typed.specs.World.{Queued, Scheduled}
use Rattle.zk_events.specs.declared.sealed.SealedMachine.{SealedMachine}
use Rattle.zk_events.specs.Flowing.{IsTold}
use Rattle.zk_events.specs.Sealed.{StandsFor}
use Rattle.zk_events.proofs.dispatcher.Dispatcher.happen.Goals as goal

-- what is due under a number is the event of that number
event-happens : (machine : SealedMachine) (program : Program) (given : Told) (budget : ℕ) (at : Moment) (world : World) (what : DueKind) (order : ℕ) (event : rust.Queued) (due : Due)
    → what ≡ kind.Scheduled order → IsTold what due world
    → ((one : Scheduled) → event_numbered order world.scheduled ≡ Some one
    → (queued_of event ≡ one.what) × StandsFor machine program given (dispatch program budget (with_time at (not_waiting one world)) (queued_of event)))
    → StandsFor machine program given (happens program budget (with_time at world) due)
event-happens machine program given budget at world what order event (EntryDue table number) is told takes = absurd (let no : ⊥ = cc in no)
event-happens machine program given budget at world what order event (EventDue one) is told takes =
    let number = told.0 in
    let same : order ≡ one.order = cc in
    let taken = takes one (subst (λ n. event_numbered n world.scheduled ≡ Some one) (sym same) told.1) in
    subst (λ (e : Queued). StandsFor machine program given (dispatch program budget (with_time at (not_waiting one world)) e)) taken.0 taken.1

pub returns-in-Scheduled-clause-stands : goal.returns-in-Scheduled-clause-stands
returns-in-Scheduled-clause-stands c = on_ok_weaker c.dispatch.result (λ dispatches program given world due stands told.
    event-happens c.dispatch.new.self.machine program given c.args.self.now.budget c.args.at world c.args.what c.in-Scheduled.order c.take_scheduled-event.result due c.in-Scheduled.is told
    (λ one there.
    let taken = c.take_scheduled-event.ensures program given world one stands there in
    (taken.0, dispatches program given _ (c.set_time-in-Scheduled.ensures program given _ taken.1)))) c.dispatch.ensures.stands
