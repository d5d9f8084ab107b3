use Rattle.std.proofs.Common.{◌≡◌, flat_map, take}
use Rattle.zk_scope.specs.Lent.{stated_lent}
use Rattle.zk_typed.specs.Names.{Declared}
use Rattle.zk_check.specs.Hooks.{hook_bodies_at, stated_hook}
use Rattle.zk_check_declarations.specs.Sources.{scripts_from}
use Rattle.zk_check.proofs.program.hooks.bodies_by_name.Given as goal

abbrev pub invariant-loop-one : goal.invariant-loop-one
invariant-loop-one l = (name : Declared) →
    hook_bodies_at (scripts_from l.source) l.bodies name ≡ flat_map (stated_hook (scripts_from l.source) name) (stated_lent (take l.one-index l.one-items))
