use Rattle.std.proofs.Common.{◌≡◌, ◌++◌, length, map}
use Rattle.zk_lower.specs.View.{op_of}
use Rattle.zk_lower.proofs.ops.append.Given as goal

abbrev pub invariant-loop-op : goal.invariant-loop-op
invariant-loop-op l = map op_of l.list.items ++ l.tail ≡ map op_of l.initial.list.items ++ l.initial.tail

abbrev pub decreases-loop-op : goal.decreases-loop-op
decreases-loop-op l = length l.tail
