use Rattle.std.proofs.Common.{map, take}
use Rattle.zk_typed.specs.View.{global_of}
use Rattle.zk_lower.specs.View as view
use Rattle.zk_lower.proofs.Growing.{InitialsGrown}
use Rattle.zk_lower.proofs.program.add_globals.Given as goal

abbrev pub invariant-loop-index : goal.invariant-loop-index
invariant-loop-index l = InitialsGrown (map global_of (take l.index l.globals)) l.initial.ops l.ops (map view.global_of l.list.items)
