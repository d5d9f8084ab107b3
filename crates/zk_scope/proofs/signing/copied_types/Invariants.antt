use Rattle.std.proofs.Common.{◌≡◌, take}
use Rattle.zk_scope.proofs.signing.copied_types.Given as goal

abbrev pub invariant-loop-one : goal.invariant-loop-one
invariant-loop-one l = l.copy.items ≡ take l.one-index l.types
