use Rattle.std.proofs.Common.{Ok, Err}
use Rattle.zk_check_operators.specs.Views.{typed_of}
use Rattle.zk_check_operators.proofs.BothLaws.{both_tell, passed}
use Rattle.zk_typed.specs.Checked.{both}
use Rattle.zk_typed.specs.Forms as form
use Rattle.zk_check_operators.specs.declared.operands.Typed.{Typed as RustTyped}
use Rattle.zk_typed.specs.declared.script.stmt.Stmt.{Stmt as RustStmt}
use Rattle.zk_typed.specs.Typing.{Typed}
use Rattle.zk_typed.specs.View.{stmt_of}
use Rattle.zk_check_statements.proofs.joins.while_made.Goals as goal

pub returns-clause-made : goal.returns-clause-made
returns-clause-made c test body told_test told_body =
    passed (λ (pair : RustTyped × RustStmt). (typed_of pair.0, stmt_of pair.1)) stmt_of (both test body) (λ (parts : Typed × form.Stmt). Ok (form.While c.args.place parts.0.expr parts.1)) c.in-Err.refusal
    (both_tell typed_of stmt_of c.args.test c.args.body (Err c.in-Err.refusal) test body told_test told_body c.in-Err.ensures)
