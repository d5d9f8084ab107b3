use Rattle.std.proofs.Common.{◌≡◌, ◌+◌, ◌*◌, drop}
use Rattle.zk_check_expressions.specs.Envs.{locals_of}
use Rattle.zk_check_operators.specs.Gather.{Told}
use Rattle.zk_typed.specs.Statements as spec
use Rattle.zk_check_statements.specs.Bodies.{context_of, seen, with_more}
use Rattle.zk_check_statements.proofs.body.+stmt.Given as goal

abbrev pub decreases-stmt : goal.decreases-stmt
decreases-stmt l = 3 * l.depth

abbrev pub decreases-other_arm : goal.decreases-other_arm
decreases-other_arm l = 3 * l.depth + 1

abbrev pub decreases-if_stmt : goal.decreases-if_stmt
decreases-if_stmt l = 3 * l.depth + 2

abbrev pub decreases-while_stmt : goal.decreases-while_stmt
decreases-while_stmt l = 3 * l.depth + 1

abbrev pub decreases-for_stmt : goal.decreases-for_stmt
decreases-for_stmt l = 3 * l.depth + 1

abbrev pub decreases-block_stmt : goal.decreases-block_stmt
decreases-block_stmt l = 3 * l.depth + 1

abbrev pub invariant-block_stmt-loop-one : goal.invariant-block_stmt-loop-one
invariant-block_stmt-loop-one l = Told l.all →
    with_more (seen l.all) (spec.stmts_typed (spec.stmt_to l.depth) (context_of l.context) (locals_of l.locals) (drop l.one-index l.one-items))
    ≡ spec.stmts_typed (spec.stmt_to l.depth) (context_of l.context) (locals_of l.initial.locals) l.one-items
