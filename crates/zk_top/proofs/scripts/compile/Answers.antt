use Rattle.zk_typed.specs.Errors.{errors}
use Rattle.zk_typed.specs.View.{program_of}
use Rattle.zk_scope.specs.Lent.{files_of}
use Rattle.zk_outcome.specs.declared.found.Found.TheVariants.{Accepted, Refused}
use Rattle.zk_top.proofs.CompileLaws.{code_accepted, code_of_judged}
use Rattle.zk_top.proofs.scripts.compile.Goals as goal

pub returns-in_ok-runnable-in-Ok : goal.returns-in_ok-runnable-in-Ok
returns-in_ok-runnable-in-Ok c =
    code_of_judged c.args.scripts.now (Accepted c.in_ok-runnable-in-Ok.field-0)
    (code_accepted c.args.scripts.now c.in_ok-runnable-in-Ok.field-0 (program_of c.in-Ok.program) c.in-Ok.ensures.accepted c.in_ok-runnable-in-Ok.ensures)

pub returns-in_ok-refused-in-Err : goal.returns-in_ok-refused-in-Err
returns-in_ok-refused-in-Err c =
    code_of_judged c.args.scripts.now (Refused c.in_ok-refused-in-Err.field-0) (c.in_ok-refused-in-Err.ensures (errors (files_of c.args.scripts.now)) c.in-Err.ensures.refused)
