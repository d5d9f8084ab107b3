use Rattle.std.proofs.Common.{◌≡◌, map, take}
use Rattle.zk_tree.specs.Value as plain
use Rattle.zk_value.specs.Plain.{key_of}
use Rattle.zk_machine.proofs.called.count_values.Given as goal

abbrev pub invariant-loop-count : goal.invariant-loop-count
invariant-loop-count l = key_of l.values.items ≡ map plain.Count (take l.count-index l.counts)
