use Rattle.std.proofs.Common.{◌≡◌, flat_map, map, take}
use Rattle.zk_scope.specs.Lent.{declared_lent}
use Rattle.zk_typed.specs.Typing.{is_hook}
use Rattle.zk_typed.specs.View as view
use Rattle.zk_check_declarations.specs.Choosing.{chosen}
use Rattle.zk_check.specs.Hooks.{hook_among}
use Rattle.zk_check_declarations.specs.Sources.{scripts_from}
use Rattle.zk_check.proofs.program.hooks.hooks_of.Given as goal

abbrev pub invariant-loop-one : goal.invariant-loop-one
invariant-loop-one l = map view.hook_of l.all.items ≡ flat_map (chosen is_hook (hook_among (scripts_from l.source) l.bodies)) (declared_lent (take l.one-index l.one-items))
