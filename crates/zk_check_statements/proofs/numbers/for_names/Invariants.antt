use Rattle.std.proofs.Common.{◌≡◌, drop}
use Rattle.zk_check_expressions.specs.Envs.{locals_of}
use Rattle.zk_check_operators.specs.Gather.{Told}
use Rattle.zk_typed.specs.Statements as spec
use Rattle.zk_check_statements.specs.Bodies.{context_of}
use Rattle.zk_check_statements.specs.Numbers.{givens_in, seen_numbers, with_numbers}
use Rattle.zk_check_statements.specs.Turns.{names_lent}
use Rattle.zk_check_statements.proofs.numbers.for_names.Given as goal

abbrev pub invariant-loop-index : goal.invariant-loop-index
invariant-loop-index l = Told l.all →
    with_numbers (seen_numbers l.all) (spec.for_names (context_of l.context) (locals_of l.locals) (names_lent (drop l.index l.names)) (givens_in (drop l.index l.types)))
    ≡ spec.for_names (context_of l.context) (locals_of l.initial.locals) (names_lent l.names) (givens_in l.types)
