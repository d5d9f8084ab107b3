use Rattle.std.proofs.Common.{◌≡◌, Some, map, take}
use Rattle.zk_value.specs.Plain.{value_of, field_of}
use Rattle.zk_machine.proofs.calls.params.Given as goal

abbrev pub invariant-loop-value : goal.invariant-loop-value
invariant-loop-value l = map field_of l.names.items ≡ map Some (map value_of (take l.value-index l.values))
