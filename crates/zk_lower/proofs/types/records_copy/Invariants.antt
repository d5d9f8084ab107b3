use Rattle.std.proofs.Common.{◌≡◌, map, take}
use Rattle.zk_typed.specs.View.{record_of}
use Rattle.zk_lower.proofs.types.records_copy.Given as goal

abbrev pub invariant-loop-record_type : goal.invariant-loop-record_type
invariant-loop-record_type l = map record_of l.copy.items ≡ map record_of (take l.record_type-index l.records)
