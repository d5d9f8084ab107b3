use Rattle.std.proofs.Common.{◌≡◌, map, take}
use Rattle.zk_typed.specs.View as view
use Rattle.zk_check.specs.Hooks.{hook_body_typed}
use Rattle.zk_check_declarations.specs.Sources.{scripts_from}
use Rattle.zk_check.proofs.program.hooks.hook_bodies_made.Given as goal

abbrev pub invariant-loop-one : goal.invariant-loop-one
invariant-loop-one l = map view.hook_body_of l.all.items ≡ map (hook_body_typed (scripts_from l.source)) (take l.one-index l.ones)
