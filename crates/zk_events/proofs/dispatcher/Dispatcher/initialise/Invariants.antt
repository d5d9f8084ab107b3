use Rattle.std.proofs.Common.{◌≡◌}
use Rattle.zk_lower.specs.Told.{Told}
use Rattle.zk_events.specs.Sealed.{StandsFor, code_of}
use Rattle.zk_typed.specs.Program.{Program}
use Rattle.zk_typed.specs.Running.{initialised}
use Rattle.zk_typed.specs.State.{World}
use Rattle.zk_events.proofs.Draining.{Initialises}
use Rattle.zk_events.proofs.dispatcher.Dispatcher.initialise.Given as goal

abbrev pub invariant-loop-global : goal.invariant-loop-global
invariant-loop-global l = record {
  initialises : (program : Program) (given : Told) (world : World) → StandsFor l.initial.self.machine program given world
      → Initialises l.global l.self program given (initialised program l.initial.self.budget 0 world program.globals);
  code : code_of l.self.machine ≡ code_of l.initial.self.machine;
  budget : l.self.budget ≡ l.initial.self.budget;
  left : l.self.left ≡ l.initial.self.left;
}
