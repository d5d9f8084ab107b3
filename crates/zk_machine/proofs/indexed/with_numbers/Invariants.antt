use Rattle.std.proofs.Common.{◌≡◌, map, take}
use Rattle.zk_machine.specs.Handling.{numbered, numbered_of}
use Rattle.zk_lower.specs.View.{handler_of}
use Rattle.zk_machine.proofs.indexed.with_numbers.Given as goal

abbrev pub invariant-loop-index : goal.invariant-loop-index
invariant-loop-index l = map numbered_of l.list.items ≡ numbered 0 (map handler_of (take l.index l.handlers))
