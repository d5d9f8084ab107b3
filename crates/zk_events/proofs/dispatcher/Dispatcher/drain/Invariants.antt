use Rattle.std.proofs.Common.{◌≡◌, ◌≤◌}
use Rattle.zk_lower.specs.Told.{Told}
use Rattle.zk_events.specs.Sealed.{StandsFor}
use Rattle.zk_typed.specs.Program.{Program}
use Rattle.zk_typed.specs.Running.{drained}
use Rattle.zk_typed.specs.State.{World}
use Rattle.zk_events.proofs.Draining.{IsDraining}
use Rattle.zk_events.proofs.dispatcher.Dispatcher.drain.Given as goal

abbrev pub invariant-loop-event : goal.invariant-loop-event
invariant-loop-event l = record {
  draining : (program : Program) (given : Told) (world : World) → StandsFor l.initial.self.machine program given world
      → IsDraining l.self program given (drained program l.initial.self.budget l.initial.self.left world);
  budget : l.self.budget ≡ l.initial.self.budget;
  fewer : l.self.left ≤ l.initial.self.left;
}

abbrev pub decreases-loop-event : goal.decreases-loop-event
decreases-loop-event l = l.self.left
