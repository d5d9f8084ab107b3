use Rattle.std.proofs.Common.{◌≡◌, flat_map, take}
use Rattle.zk_scope.specs.Lent.{stated_lent}
use Rattle.zk_typed.specs.Names.{Declared}
use Rattle.zk_typed.specs.Resolving.{Scripts}
use Rattle.zk_check.specs.Functions.{functions_at, stated_function}
use Rattle.zk_check.proofs.program.functions.bodies_by_name.Given as goal

abbrev pub invariant-loop-one : goal.invariant-loop-one
invariant-loop-one l = (scripts : Scripts) (name : Declared) → functions_at scripts l.bodies name ≡ flat_map (stated_function scripts name) (stated_lent (take l.one-index l.one-items))
