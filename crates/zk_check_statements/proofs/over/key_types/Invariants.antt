use Rattle.std.proofs.Common.{◌≡◌, map, take}
use Rattle.zk_typed.specs.Types.{Simple}
use Rattle.zk_typed.specs.View.{type_of}
use Rattle.zk_check_statements.proofs.over.key_types.Given as goal

abbrev pub invariant-loop-key : goal.invariant-loop-key
invariant-loop-key l = map type_of l.types.items ≡ map Simple (take l.key-index l.keys)
