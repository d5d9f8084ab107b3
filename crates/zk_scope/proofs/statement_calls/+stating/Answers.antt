use Rattle.std.proofs.Common.{◌≡◌, List, ◌++◌, ap, sym, ◌∙◌, append_assoc}
use Rattle.zk_typed.specs.LogCalls.{Call, expr_calls, stmt_calls_to}
use Rattle.zk_scope.specs.Calls.{all_items_calls}
use Rattle.zk_scope.specs.Lent.{home_of}
use Rattle.zk_scope.proofs.StatementCallLaws.{in_schedule}
use Rattle.zk_scope.proofs.statement_calls.+stating.Goals as goal

-- two runs are one
twice : (old first new a b whole : List Call) → first ≡ old ++ a → new ≡ first ++ b → whole ≡ a ++ b → new ≡ old ++ whole
twice old first new a b whole p q w = q ∙ ap (λ x. x ++ b) p ∙ append_assoc old a b ∙ ap (λ x. old ++ x) (sym w)

pub add_stmt_calls-returns-in_ok-add_all_items-in-Schedule : goal.add_stmt_calls-returns-in_ok-add_all_items-in-Schedule
add_stmt_calls-returns-in_ok-add_all_items-in-Schedule t c =
    let home = home_of c.args.home in
    twice _ _ _ _ _ _ c.in_ok-add_calls-in-Schedule.ensures c.in_ok-add_all_items-in-Schedule.ensures
    (ap (stmt_calls_to c.args.depth home) c.in-Schedule.is ∙ in_schedule _ home _ _ _ _ c.if-depth-eq0.false ∙
    ap (λ x. expr_calls home c.in-Schedule.delay ++ all_items_calls home x) (sym c.as_slice-in-Schedule.ensures))
