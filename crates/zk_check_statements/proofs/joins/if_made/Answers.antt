use Rattle.std.proofs.Common.{Ok, Err}
use Rattle.zk_check_operators.specs.Views.{typed_of}
use Rattle.zk_check_operators.proofs.BothLaws.{both_tell, passed}
use Rattle.zk_typed.specs.Checked.{both}
use Rattle.zk_typed.specs.Forms as form
use Rattle.zk_check_operators.specs.declared.operands.Typed.{Typed as RustTyped}
use Rattle.zk_typed.specs.declared.script.stmt.Stmt.{Stmt as RustStmt}
use Rattle.zk_typed.specs.Typing.{Typed}
use Rattle.zk_typed.specs.View.{stmt_of}
use Rattle.zk_check_statements.proofs.joins.if_made.Goals as goal

pub returns-clause-made : goal.returns-clause-made
returns-clause-made c test met otherwise told_test told_met told_otherwise =
    passed (λ (parts : RustTyped × (RustStmt × RustStmt)). (typed_of parts.0, (stmt_of parts.1.0, stmt_of parts.1.1))) stmt_of (both test (both met otherwise)) (λ (parts : Typed × (form.Stmt × form.Stmt)). Ok (form.If c.args.place parts.0.expr parts.1.0 parts.1.1)) c.in-Err.refusal
    (both_tell typed_of (λ (pair : RustStmt × RustStmt). (stmt_of pair.0, stmt_of pair.1)) c.args.test c.both-arms.result (Err c.in-Err.refusal) test (both met otherwise) told_test
    (both_tell stmt_of stmt_of c.args.yes c.args.no c.both-arms.result met otherwise told_met told_otherwise c.both-arms.ensures) c.in-Err.ensures)
