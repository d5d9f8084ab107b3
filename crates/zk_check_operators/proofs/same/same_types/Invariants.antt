use Rattle.std.proofs.Common.{◌≡◌, drop, map}
use Rattle.zk_typed.specs.LogCalls.{same_types}
use Rattle.zk_typed.specs.View.{type_of}
use Rattle.zk_check_operators.proofs.same.same_types.Given as goal

abbrev pub invariant-loop-one : goal.invariant-loop-one
invariant-loop-one l = same_types (map type_of (drop l.one-index l.some)) (map type_of l.left) ≡ same_types (map type_of l.some) (map type_of l.others)
