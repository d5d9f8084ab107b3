use Rattle.zk_check_expressions.specs.Envs.{env_of}
use Rattle.zk_check_statements.proofs.PlainForms.{print_at, event_at, schedule_at, expr_at}
use Rattle.zk_check_statements.proofs.plain.plain_stmt.Goals as goal

pub returns-in-Print : goal.returns-in-Print
returns-in-Print c depth some = print_at _ depth _ _ _ _ _ _ some c.in-Print.is c.as_slice.ensures c.print_stmt.ensures

pub returns-in-Event : goal.returns-in-Event
returns-in-Event c depth some = event_at _ depth _ _ _ _ _ _ _ some c.in-Event.is c.as_slice-in-Event.ensures c.event_stmt.ensures

pub returns-in-Schedule : goal.returns-in-Schedule
returns-in-Schedule c depth some = schedule_at _ depth _ _ _ _ _ _ _ _ some c.in-Schedule.is c.as_slice-in-Schedule.ensures c.schedule_stmt.ensures

pub returns-in-Expr : goal.returns-in-Expr
returns-in-Expr c depth some = expr_at _ depth _ _ _ (env_of c.env_in.result) _ some c.in-Expr.is c.env_in.ensures c.expr_stmt.ensures
