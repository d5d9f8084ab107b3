use Rattle.std.proofs.Common.{◌≡◌, ◌+◌, ℕ, length}
use Rattle.zk_machine.specs.Handling.{numbers_at}
use Rattle.zk_machine.proofs.indexed.widen.Given as goal

abbrev pub invariant-loop : goal.invariant-loop
invariant-loop l = ((event : ℕ) → numbers_at l.lists.items event ≡ numbers_at l.initial.lists.items event) × (length l.lists.items ≡ length l.initial.lists.items + l.counter)
