use Rattle.std.proofs.Common.{◌≡◌, drop}
use Rattle.zk_typed.specs.Operations as spec
use Rattle.zk_check_operators.proofs.same.same_keys.Given as goal

abbrev pub invariant-loop-key : goal.invariant-loop-key
invariant-loop-key l = spec.same_keys (drop l.key-index l.a) l.others ≡ spec.same_keys l.a l.b
