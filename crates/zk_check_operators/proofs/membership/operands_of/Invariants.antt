use Rattle.std.proofs.Common.{◌≡◌, map}
use Rattle.zk_check_operators.proofs.membership.operands_of.Given as goal

abbrev pub invariant-loop-one : goal.invariant-loop-one
invariant-loop-one l = l.operands ≡ map (λ one. one.expr) l.yielded
