use Rattle.std.proofs.Common.{Bool, Ok, Err, sym, subst}
use Rattle.zk_check_operators.proofs.BothLaws.{both_tell, passed}
use Rattle.zk_typed.specs.declared.script.stmt.Stmt.{Stmt as RustStmt}
use Rattle.zk_typed.specs.Checked.{both}
use Rattle.zk_typed.specs.Forms as form
use Rattle.zk_typed.specs.Tells.{Tells}
use Rattle.zk_typed.specs.View.{stmt_of}
use Rattle.zk_check_statements.specs.Begins.{named}
use Rattle.zk_check_statements.proofs.begins.named.Goals as goal

pub returns-in-Err-clause-made : goal.returns-in-Err-clause-made
returns-in-Err-clause-made c name wanted told_name told_made =
    let P : Bool → Type 0 = λ bare. Tells stmt_of (Err c.in-Err.refusal) (named bare name wanted) in
    subst P (sym c.if-bare.true)
    (passed (λ (pair : Unit {0} × RustStmt). (pair.0, stmt_of pair.1)) stmt_of (both name wanted) (λ (parts : Unit {0} × form.Stmt). Ok parts.1) c.in-Err.refusal
    (both_tell (λ (done : Unit {0}). done) stmt_of c.args.once c.args.made (Err c.in-Err.refusal) name wanted told_name told_made c.in-Err.ensures))
