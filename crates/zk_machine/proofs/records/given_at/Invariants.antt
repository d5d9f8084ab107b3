use Rattle.std.proofs.Common.{◌≡◌, drop}
use Rattle.zk_lower.specs.Steps as steps
use Rattle.zk_typed.specs.Objects.{given_at}
use Rattle.zk_value.specs.Plain.{key_of}
use Rattle.zk_machine.proofs.records.given_at.Given as goal

abbrev pub invariant-loop-place : goal.invariant-loop-place
invariant-loop-place l = given_at l.number (steps.given (drop l.place l.given) (key_of (drop l.place l.operands))) ≡ given_at l.number (steps.given l.given (key_of l.operands))
