use Rattle.std.proofs.Common.{◌≡◌, Some, drop}
use Rattle.std.specs.Option.{option_map}
use Rattle.zk_typed.specs.Columns.{value_at}
use Rattle.zk_value.specs.Plain.{value_of}
use Rattle.zk_machine.proofs.rows.value_at.Given as goal

abbrev pub invariant-loop-number : goal.invariant-loop-number
invariant-loop-number l = value_at l.heap.objects (drop l.number-index l.path) (option_map (λ one. value_of one.now) l.value) ≡ value_at l.heap.objects l.path (Some (value_of l.from))
