use Rattle.std.proofs.Common.{◌≡◌, map, take}
use Rattle.zk_machine.specs.Handling.{expiring_from}
use Rattle.zk_lower.specs.View.{global_of}
use Rattle.zk_machine.proofs.indexed.expiring.Given as goal

abbrev pub invariant-loop-index : goal.invariant-loop-index
invariant-loop-index l = l.list.items ≡ expiring_from 0 (map global_of (take l.index l.globals))
