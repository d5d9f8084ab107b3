use Rattle.std.proofs.Common.{◌≡◌, map, take}
use Rattle.zk_tree.specs.Table.{Entry}
use Rattle.zk_value.specs.Plain.{key_of}
use Rattle.zk_table.specs.Slots.{entries_in}
use Rattle.zk_table.proofs.entries.Entries.keys.Given as goal

abbrev pub invariant-loop-slot : goal.invariant-loop-slot
invariant-loop-slot l = map key_of l.keys.items ≡ map (λ (entry : Entry). entry.key) (entries_in (take l.slot-index l.self.slots.items))
