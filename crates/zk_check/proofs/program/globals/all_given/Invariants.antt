use Rattle.std.proofs.Common.{◌≡◌, ◌++◌, drop, map}
use Rattle.zk_typed.specs.Programs as spec
use Rattle.zk_typed.specs.View.{expr_of, type_of}
use Rattle.zk_check_declarations.specs.Sources.{scripts_from}
use Rattle.zk_check_declarations.specs.Valuing.{given_lent}
use Rattle.zk_check.proofs.program.globals.all_given.Given as goal

abbrev pub invariant-loop-value : goal.invariant-loop-value
invariant-loop-value l =
    map expr_of l.all.items ++ spec.all_given (scripts_from l.source) (type_of l.one) (drop l.value-index (given_lent l.given))
    ≡ spec.all_given (scripts_from l.source) (type_of l.one) (given_lent l.given)
