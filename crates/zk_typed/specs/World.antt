-- The events that wait in a world.
use Rattle.std.specs.Prelude.{ℕ, List}
use Rattle.zk_base.specs.declared.numbers.EventNo.{EventNo}
use Rattle.zk_base.specs.declared.time.Moment.{Moment}
use Rattle.zk_tree.specs.Value.{Value}

-- an event with its arguments
pub record Queued : Type 0 where
  pub event : EventNo
  pub args : List Value

abbrev pub queued : EventNo → List Value → Queued
queued event args = record { event = event; args = args }

-- an event that is due at a moment, and which of those that were scheduled it is
pub record Scheduled : Type 0 where
  pub due : Moment
  pub order : ℕ
  pub what : Queued
