use Rattle.std.proofs.Common.{◌≡◌, ℕ, length}
use Rattle.zk_machine.specs.Schedule.{AreLast, waiting}
use Rattle.zk_machine.proofs.schedule.trim.Given as goal

abbrev pub invariant-gone : goal.invariant-gone
invariant-gone l = (waiting l.slots.items ≡ waiting l.initial.slots.items) × ((count : ℕ) → AreLast count l.initial.slots.items → AreLast count l.slots.items)

abbrev pub decreases-gone : goal.decreases-gone
decreases-gone l = length l.slots.items
