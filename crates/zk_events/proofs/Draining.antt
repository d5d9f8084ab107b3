-- How far the loops of a dispatcher have come.
use Rattle.std.proofs.Common.{◌≡◌, ℕ, drop}
use Rattle.zk_lower.specs.Told.{Told}
use Rattle.zk_events.specs.Sealed.{StandsFor}
use Rattle.zk_typed.specs.Program.{Program}
use Rattle.zk_typed.specs.Running.{Progress, drained, initialised}
use Rattle.zk_typed.specs.State.{World}
use Rattle.zk_events.specs.declared.dispatcher.Dispatcher.{Dispatcher}
use Rattle.zk_events.specs.declared.dispatcher.Until.{Until}
use Rattle.zk_events.specs.Flowing.{is_due, time_at}
use Rattle.zk_events.proofs.RunLemmas.{IsTurning}

-- what is dispatched from here on comes to what all comes to
pub record IsDraining (dispatcher : Dispatcher) (program : Program) (given : Told) (progress : Progress) : Type 0 where
  pub world : World
  pub stands : StandsFor dispatcher.machine program given world
  pub same : drained program dispatcher.budget dispatcher.left world ≡ progress

-- so do the turns that come from here on
pub record TakesTurns (until : Until) (dispatcher : Dispatcher) (program : Program) (given : Told) (progress : Progress) : Type 0 where
  pub world : World
  pub stands : StandsFor dispatcher.machine program given world
  pub turning : IsTurning program dispatcher.budget (time_at until) (λ one. is_due until one.at) world dispatcher.left progress

-- the initial values from a number on come to the world that all come to
pub record Initialises (number : ℕ) (dispatcher : Dispatcher) (program : Program) (given : Told) (whole : World) : Type 0 where
  pub world : World
  pub stands : StandsFor dispatcher.machine program given world
  pub same : initialised program dispatcher.budget number world (drop number program.globals) ≡ whole
