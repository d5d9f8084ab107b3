use Rattle.std.proofs.Common.{◌≡◌, drop}
use Rattle.zk_typed.specs.Typing as spec
use Rattle.zk_check_operators.specs.Views.{typed_all}
use Rattle.zk_check_operators.proofs.membership.is_left_of_in.Given as goal

abbrev pub invariant-loop-key : goal.invariant-loop-key
invariant-loop-key l = spec.is_left_of_in (typed_all (drop l.key-index l.keys)) ≡ spec.is_left_of_in (typed_all l.keys)
