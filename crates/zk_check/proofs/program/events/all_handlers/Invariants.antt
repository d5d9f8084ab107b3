use Rattle.std.proofs.Common.{◌≡◌, flat_map, map, take}
use Rattle.zk_scope.specs.Lent.{stated_lent}
use Rattle.zk_typed.specs.View as view
use Rattle.zk_check_declarations.specs.Sources.{scripts_from}
use Rattle.zk_check.specs.Programming.{stated_handlers}
use Rattle.zk_check.proofs.program.events.all_handlers.Given as goal

abbrev pub invariant-loop-one : goal.invariant-loop-one
invariant-loop-one l = map view.handler_of l.all.items ≡ flat_map (stated_handlers (scripts_from l.source)) (stated_lent (take l.one-index l.one-items))
