use Rattle.std.proofs.Common.{◌≡◌, flat_map, map, take}
use Rattle.zk_scope.specs.Lent.{declared_lent}
use Rattle.zk_typed.specs.Programs as spec
use Rattle.zk_typed.specs.Typing.{is_event}
use Rattle.zk_typed.specs.View as view
use Rattle.zk_check_declarations.specs.Choosing.{chosen}
use Rattle.zk_check_declarations.specs.Sources.{scripts_from}
use Rattle.zk_check.proofs.program.events.all_events.Given as goal

abbrev pub invariant-loop-one : goal.invariant-loop-one
invariant-loop-one l = map view.event_of l.all.items ≡ flat_map (chosen is_event (spec.event_of (scripts_from l.source))) (declared_lent (take l.one-index l.one-items))
