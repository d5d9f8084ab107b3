use Rattle.std.proofs.Common.{◌≡◌, ◌++◌, map, drop, length}
use Rattle.zk_typed.specs.BuiltIns.{formatted}
use Rattle.zk_value.specs.Plain.{value_of}
use Rattle.zk_builtin.proofs.format.fmt.Given as goal

abbrev pub invariant-loop-at : goal.invariant-loop-at
invariant-loop-at l =
    l.out.items ++ formatted l.rest (drop l.place (map value_of l.args)) ≡ formatted l.text (map value_of l.args)

abbrev pub decreases-loop-at : goal.decreases-loop-at
decreases-loop-at l = length l.rest
