use Rattle.std.proofs.Common.{◌≡◌, map, take}
use Rattle.zk_typed.specs.View.{field_of}
use Rattle.zk_lower.proofs.types.record_copy.Given as goal

abbrev pub invariant-loop-field : goal.invariant-loop-field
invariant-loop-field l = map field_of l.fields.items ≡ map field_of (take l.field-index l.field-items)
