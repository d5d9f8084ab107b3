use Rattle.std.proofs.Common.{map, take}
use Rattle.zk_typed.specs.View.{handler_of}
use Rattle.zk_lower.specs.Lowering.{handler_ops, handler_found}
use Rattle.zk_lower.specs.View as view
use Rattle.zk_lower.proofs.Growing.{Grown}
use Rattle.zk_lower.proofs.program.add_handlers.Given as goal

abbrev pub invariant-loop-handler : goal.invariant-loop-handler
invariant-loop-handler l = Grown handler_ops handler_found (map handler_of (take l.handler-index l.handlers)) l.initial.ops l.ops (map view.handler_of l.list.items)
