use Rattle.std.proofs.Common.{◌≡◌, fold, map, take}
use Rattle.zk_typed.specs.Objects.{add_member}
use Rattle.zk_value.specs.Plain.{key_of}
use Rattle.zk_table.specs.Heap.{changed, in_table}
use Rattle.zk_machine.proofs.updates.insert_all.Given as goal

abbrev pub invariant-loop-key : goal.invariant-loop-key
invariant-loop-key l = (l.heap.objects ≡ changed (in_table (λ members. fold (add_member l.now) members (map key_of (take l.key-index l.keys)))) l.number.0 l.initial.heap.objects)
    × (l.heap.unwatched ≡ l.initial.heap.unwatched)
