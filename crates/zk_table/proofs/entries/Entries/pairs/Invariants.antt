use Rattle.std.proofs.Common.{◌≡◌, map, take}
use Rattle.zk_table.specs.Pairs.{pair_of, pair_in}
use Rattle.zk_table.specs.Slots.{entries_in}
use Rattle.zk_table.proofs.entries.Entries.pairs.Given as goal

abbrev pub invariant-loop-slot : goal.invariant-loop-slot
invariant-loop-slot l = map pair_of l.pairs.items ≡ map pair_in (entries_in (take l.slot-index l.self.slots.items))
