use Rattle.std.proofs.Common.{◌≡◌, fold, map, take}
use Rattle.zk_tree.specs.Table.{remove}
use Rattle.zk_value.specs.Plain.{key_of}
use Rattle.zk_table.specs.Heap.{changed, in_table}
use Rattle.zk_machine.proofs.updates.remove_all.Given as goal

abbrev pub invariant-loop-key : goal.invariant-loop-key
invariant-loop-key l = (l.heap.objects ≡ changed (in_table (λ members. fold (λ left key. remove key left) members (map key_of (take l.key-index l.keys)))) l.number.0 l.initial.heap.objects)
    × (l.heap.unwatched ≡ l.initial.heap.unwatched)
