use Rattle.std.proofs.Common.{◌≡◌, drop}
use Rattle.zk_typed.specs.Objects.{given_at}
use Rattle.zk_machine.specs.Made.{given_of}
use Rattle.zk_machine.proofs.fresh.given_at.Given as goal

abbrev pub invariant-loop-one : goal.invariant-loop-one
invariant-loop-one l = given_at l.number (given_of (drop l.one-index l.given)) ≡ given_at l.number (given_of l.given)
