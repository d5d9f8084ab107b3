use Rattle.std.proofs.Common.{◌≡◌, ◌++◌, drop, map}
use Rattle.zk_typed.specs.View.{expr_of}
use Rattle.zk_lower.specs.Lowering.{added_code}
use Rattle.zk_lower.proofs.program.put_added.Given as goal

abbrev pub invariant-loop-index : goal.invariant-loop-index
invariant-loop-index l = l.tail ≡ added_code l.place (map expr_of (drop l.index l.added)) ++ l.initial.tail
