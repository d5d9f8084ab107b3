use Rattle.std.proofs.Common.{◌≡◌, ◌==◌, ℕ, map, filter, take}
use Rattle.zk_machine.specs.Handling.{numbered_of, numbers_at}
use Rattle.zk_machine.proofs.indexed.by_event.Given as goal

abbrev pub invariant-loop-one : goal.invariant-loop-one
invariant-loop-one l = (event : ℕ) → numbers_at l.lists.items event ≡ map (λ one. one.0) (filter (λ one. one.1.event.0 == event) (map numbered_of (take l.one-index l.handlers)))
