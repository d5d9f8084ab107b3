use Rattle.std.proofs.Common.{◌++◌, ap, sym, ◌∙◌, length}
use Rattle.zk_typed.specs.View.{stmt_of}
use Rattle.zk_lower.specs.Lowering.{stmt_code}
use Rattle.zk_lower.specs.View.{exits_at}
use Rattle.zk_lower.proofs.Emission.{on_ok}
use Rattle.zk_lower.proofs.Joins.{do_code, call_code, move_code, two_joined, if_put}
use Rattle.zk_lower.proofs.stmts.+put_stmt.Goals as goal

pub put_stmt-returns-in-Do : goal.put_stmt-returns-in-Do
put_stmt-returns-in-Do t c = on_ok c.put_operands.result (λ e b n.
    (rw c.as_slice-in-Do.ensures at e) ∙ ap (λ list. list ++ c.args.tail.now) (sym (ap (λ one. stmt_code (exits_at c.args.ways (length c.args.tail.now)) (stmt_of one)) c.in-Do.is ∙
    do_code (exits_at c.args.ways (length c.args.tail.now)) c.in-Do.place c.in-Do.action c.in-Do.operands c.len.result c.len.ensures))) c.put_operands.ensures

pub put_stmt-returns-in-Move : goal.put_stmt-returns-in-Move
put_stmt-returns-in-Move t c = on_ok c.put_move.result (λ e b n.
    e ∙ (two_joined _ _ c.args.tail.now _ _ _ ∙ ap (λ list. list ++ c.args.tail.now) (sym (ap (λ one. stmt_code (exits_at c.args.ways (length c.args.tail.now)) (stmt_of one)) c.in-Move.is ∙
    move_code (exits_at c.args.ways (length c.args.tail.now)) c.in-Move.place c.in-Move.to c.in-Move.field c.in-Move.from c.in-Move.read)))) c.put_move.ensures

pub put_stmt-returns-in-Call : goal.put_stmt-returns-in-Call
put_stmt-returns-in-Call t c = on_ok c.put_operands-in-Call.result (λ e b n.
    (rw c.as_slice-in-Call.ensures at e) ∙ ap (λ list. list ++ c.args.tail.now) (sym (ap (λ one. stmt_code (exits_at c.args.ways (length c.args.tail.now)) (stmt_of one)) c.in-Call.is ∙
    call_code (exits_at c.args.ways (length c.args.tail.now)) c.in-Call.place c.in-Call.function c.in-Call.operands c.len-in-Call.result c.len-in-Call.ensures))) c.put_operands-in-Call.ensures

pub put_stmt-returns-in_ok-put_stmt-in-If-2 : goal.put_stmt-returns-in_ok-put_stmt-in-If-2
put_stmt-returns-in_ok-put_stmt-in-If-2 t c = on_ok c.put_test.result (λ e.
    if_put c.args.ways c.in-If.place c.in-If.test c.args.stmt.now c.in-If.yes c.in-If.no c.get-in-If.result.now c.get.result.now c.args.tail.now c.put_stmt.new.tail c.put_jump.new.self c.put_stmt-in-If.new.tail c.put_test.new.tail c.len-end.result c.len-otherwise.result
    c.in-If.is c.get.ensures c.get-in-If.ensures c.len-end.ensures c.len-otherwise.ensures c.in_ok-put_stmt-in-If.ensures c.in_ok-put_jump-in-If.ensures c.in_ok-put_stmt-in-If-2.ensures e) c.put_test.ensures
