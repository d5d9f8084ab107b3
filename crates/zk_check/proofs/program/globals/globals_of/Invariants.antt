use Rattle.std.proofs.Common.{◌≡◌, ◌++◌, drop, filter, map}
use Rattle.zk_scope.specs.Lent.{declared_lent}
use Rattle.zk_typed.specs.Programs as spec
use Rattle.zk_typed.specs.Typing.{is_variable}
use Rattle.zk_typed.specs.View as view
use Rattle.zk_check_declarations.specs.Sources.{scripts_from}
use Rattle.zk_check.proofs.program.globals.globals_of.Given as goal

abbrev pub invariant-loop-one : goal.invariant-loop-one
invariant-loop-one l =
    map view.global_of l.all.items ++ spec.globals_from (scripts_from l.source) l.number (filter is_variable (drop l.one-index (declared_lent l.one-items)))
    ≡ spec.globals_from (scripts_from l.source) 0 (filter is_variable (declared_lent l.one-items))
