use Rattle.std.proofs.Common.{◌≡◌, drop}
use Rattle.zk_check_expressions.specs.Envs.{locals_of}
use Rattle.zk_check_operators.specs.Gather.{Told, told}
use Rattle.zk_typed.specs.Checked.{both, each}
use Rattle.zk_typed.specs.Declarations.{nothing}
use Rattle.zk_check_statements.specs.Begins.{seen}
use Rattle.zk_check_statements.specs.Bodies.{context_of}
use Rattle.zk_check_statements.specs.Turns.{names_lent}
use Rattle.zk_check_statements.proofs.begins.all_seen.Given as goal

abbrev pub invariant-loop-name : goal.invariant-loop-name
invariant-loop-name l = Told l.all →
    nothing (both (told l.all) (nothing (each (seen (context_of l.context) (locals_of l.locals)) (names_lent (drop l.name-index l.names)))))
    ≡ nothing (each (seen (context_of l.context) (locals_of l.locals)) (names_lent l.names))
