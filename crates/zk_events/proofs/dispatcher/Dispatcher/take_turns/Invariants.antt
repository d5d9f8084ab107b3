use Rattle.std.proofs.Common.{◌≡◌}
use Rattle.zk_lower.specs.Told.{Told}
use Rattle.zk_events.specs.Sealed.{StandsFor}
use Rattle.zk_typed.specs.Program.{Program}
use Rattle.zk_typed.specs.Running.{turns}
use Rattle.zk_typed.specs.State.{World}
use Rattle.zk_events.specs.Flowing.{is_due, time_at}
use Rattle.zk_events.proofs.Draining.{TakesTurns}
use Rattle.zk_events.proofs.dispatcher.Dispatcher.take_turns.Given as goal

abbrev pub invariant-loop-due : goal.invariant-loop-due
invariant-loop-due l = record {
  takes : (program : Program) (given : Told) (world : World) → StandsFor l.initial.self.machine program given world
      → TakesTurns l.until l.self program given (turns program l.initial.self.budget (time_at l.until) (λ one. is_due l.until one.at) world l.initial.self.left);
  budget : l.self.budget ≡ l.initial.self.budget;
}

abbrev pub decreases-loop-due : goal.decreases-loop-due
decreases-loop-due l = l.self.left
