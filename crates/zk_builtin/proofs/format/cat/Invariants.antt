use Rattle.std.proofs.Common.{◌≡◌, map, take}
use Rattle.zk_typed.specs.BuiltIns.{joined}
use Rattle.zk_value.specs.Plain.{value_of}
use Rattle.zk_builtin.proofs.format.cat.Given as goal

abbrev pub invariant-loop-value : goal.invariant-loop-value
invariant-loop-value l = l.text.items ≡ joined (map value_of (take l.value-index l.args))
