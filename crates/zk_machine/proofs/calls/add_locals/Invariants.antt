use Rattle.std.proofs.Common.{◌≡◌, ◌++◌, None, map, replicate}
use Rattle.zk_value.specs.Plain.{field_of}
use Rattle.zk_machine.proofs.calls.add_locals.Given as goal

abbrev pub invariant-loop : goal.invariant-loop
invariant-loop l = map field_of l.names.items ≡ map field_of l.initial.names.items ++ replicate l.counter None
