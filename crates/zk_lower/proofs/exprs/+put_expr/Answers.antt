use Rattle.std.proofs.Common.{rules, ◌≡◌, ◌∷◌, length}
use Rattle.zk_lower.specs.Code as op
use Rattle.zk_lower.proofs.Emission.{on_ok, apply_put, call_put, hook_put, write_put}
use Rattle.zk_lower.proofs.exprs.+put_expr.Goals as goal

pub put_expr-returns-in_ok-put-in-Apply : goal.put_expr-returns-in_ok-put-in-Apply
put_expr-returns-in_ok-put-in-Apply t c =
    let m : c.put-in-Apply.new.self ≡ op.Apply c.args.place c.in-Apply.primitive (length c.in-Apply.operands) ∷ c.args.tail.now = search rules in
    on_ok c.put_exprs.result (λ e. apply_put c.args.place c.args.expr.now c.args.tail.now c.put-in-Apply.new.self c.put_exprs.new.tail c.in-Apply.primitive c.in-Apply.operands c.in-Apply.is m (rw c.as_slice.ensures at e)) c.put_exprs.ensures

pub put_expr-returns-in_ok-put-in-Call : goal.put_expr-returns-in_ok-put-in-Call
put_expr-returns-in_ok-put-in-Call t c =
    let m : c.put-in-Call.new.self ≡ op.Call c.args.place c.in-Call.function (length c.in-Call.operands) ∷ c.args.tail.now = search rules in
    on_ok c.put_exprs-in-Call.result (λ e. call_put c.args.place c.args.expr.now c.args.tail.now c.put-in-Call.new.self c.put_exprs-in-Call.new.tail c.in-Call.function c.in-Call.operands c.in-Call.is m (rw c.as_slice-in-Call.ensures at e)) c.put_exprs-in-Call.ensures

pub put_expr-returns-in_ok-put-in-Hook : goal.put_expr-returns-in_ok-put-in-Hook
put_expr-returns-in_ok-put-in-Hook t c =
    let m : c.put-in-Hook.new.self ≡ op.Hook c.args.place c.in-Hook.hook (length c.in-Hook.operands) ∷ c.args.tail.now = search rules in
    on_ok c.put_exprs-in-Hook.result (λ e. hook_put c.args.place c.args.expr.now c.args.tail.now c.put-in-Hook.new.self c.put_exprs-in-Hook.new.tail c.in-Hook.hook c.in-Hook.operands c.in-Hook.is m (rw c.as_slice-in-Hook.ensures at e)) c.put_exprs-in-Hook.ensures

pub put_expr-returns-in_ok-put-in-Write : goal.put_expr-returns-in_ok-put-in-Write
put_expr-returns-in_ok-put-in-Write t c =
    let m : c.put-in-Write.new.self ≡ op.Write c.args.place c.in-Write.log ∷ c.args.tail.now = search rules in
    on_ok c.put_expr-in-Write.result (λ e. write_put c.args.place c.args.expr.now c.args.tail.now c.put-in-Write.new.self c.put_expr-in-Write.new.tail c.in-Write.log c.in-Write.row c.in-Write.is m (rw c.get-in-Write.ensures at e)) c.put_expr-in-Write.ensures
