use Rattle.std.proofs.Common.{◌≡◌, Some, map, take}
use Rattle.zk_typed.specs.Columns.{value_at, value_cell}
use Rattle.zk_value.specs.Plain.{value_of}
use Rattle.zk_machine.specs.State.{cell_of}
use Rattle.zk_machine.proofs.rows.cells.Given as goal

abbrev pub invariant-loop-leaf : goal.invariant-loop-leaf
invariant-loop-leaf l = map cell_of l.cells.items ≡ map (λ leaf. value_cell l.heap.objects (value_at l.heap.objects leaf.now.path.items (Some (value_of l.row)))) (take l.leaf-index l.leaves)
