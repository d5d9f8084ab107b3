use Rattle.std.proofs.Common.{◌≡◌, ◌∷◌, map, take}
use Rattle.zk_tree.specs.Value as plain
use Rattle.zk_value.specs.Plain.{value_of, key_of}
use Rattle.zk_machine.proofs.entries.Entry.values.Given as goal

abbrev pub invariant-loop-value : goal.invariant-loop-value
invariant-loop-value l = key_of l.args.items ≡ plain.Object l.self.table ∷ map value_of (take l.value-index l.self.key)
