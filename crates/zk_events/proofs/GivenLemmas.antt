-- What an engine has given out is the beginning of what its run tells.
use Rattle.std.proofs.Common.{◌≡◌, Option, Some, None, ap, ◌∙◌}
use Rattle.zk_base.specs.declared.time.Moment.{Moment}
use Rattle.zk_lower.specs.Told.{Told}
use Rattle.zk_events.specs.declared.sealed.SealedMachine.{SealedMachine}
use Rattle.zk_events.specs.Sealed.{StandsFor}
use Rattle.zk_machine.specs.State.{world_of}
use Rattle.zk_typed.specs.Program.{Program}
use Rattle.zk_typed.specs.Running.{Progress, world_in}
use Rattle.zk_typed.specs.State.{World, with_queue}
use Rattle.zk_events.specs.declared.engine.Engine.{Engine}
use Rattle.zk_events.specs.Laws.{Begins, GivenBegins}
use Rattle.zk_events.specs.Run.{SoFar, so_far_at}
use Rattle.zk_events.specs.Standing.{IsAt}

world-begins : (of : SealedMachine) (program : Program) (given : Told) (world : World) (progress : Progress) → StandsFor of program given world
    → (world_in progress).lines ≡ world.lines → (world_in progress).rows ≡ world.rows → Begins given progress
unfolding StandsFor
world-begins of program given world progress stands lines rows = record {
  more = record { lines = (world_of of.machine.running.state.world).lines; rows = (world_of of.machine.running.state.world).rows };
  lines = lines ∙ ap (λ (w : World). w.lines) stands.comes;
  rows = rows ∙ ap (λ (w : World). w.rows) stands.comes;
}

at-begins : (flood : Option Moment) (engine : Engine) (program : Program) (given : Told) (so_far : SoFar) → IsAt flood engine program given so_far → Begins given so_far.progress
at-begins None engine program given so_far at =
    world-begins engine.dispatcher.machine program given at.flows.world so_far.progress at.flows.stands
    (ap (λ (p : Progress). (world_in p).lines) at.flows.comes) (ap (λ (p : Progress). (world_in p).rows) at.flows.comes)
at-begins (Some moment) engine program given so_far at =
    world-begins engine.dispatcher.machine program given (with_queue at.flooded.waiting at.flooded.world) so_far.progress at.flooded.stands
    (ap (λ (p : Progress). (world_in p).lines) at.flooded.comes) (ap (λ (p : Progress). (world_in p).rows) at.flooded.comes)

pub given_begins : GivenBegins
given_begins = λ engine program budget stage given stands. at-begins engine.flood engine program given (so_far_at program budget stage) stands.is_at
