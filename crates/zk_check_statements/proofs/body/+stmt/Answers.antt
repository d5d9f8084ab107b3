use Rattle.std.proofs.Common.{rules, IsTrue, ◌≡◌, [], drop, arith}
use Rattle.std.proofs.lemmas.Grind.{common_steps}
use Rattle.zk_typed.specs.Statements as spec
use Rattle.zk_check_statements.specs.Acting.{is_plain}
use Rattle.zk_check_statements.specs.Bodies.{context_of}
use Rattle.zk_check_statements.proofs.Layers.{if_gives, if_else_gives, while_gives, for_gives, local_gives, plain_gives, block_step, block_end}
use Rattle.zk_check_statements.proofs.Turning.{for_lent}
use Rattle.zk_check_statements.proofs.body.+stmt.Goals as goal

pub stmt-returns-in-If : goal.stmt-returns-in-If
stmt-returns-in-If t c = if_gives _ _ _ _ _ _ _ _ _ _ (omega arith) c.in-If.is c.get.ensures c.if_stmt.ensures

pub stmt-returns-in-IfElse : goal.stmt-returns-in-IfElse
stmt-returns-in-IfElse t c = if_else_gives _ _ _ _ _ _ _ _ _ _ _ _ (omega arith) c.in-IfElse.is c.get-in-IfElse.ensures c.get-in-IfElse-2.ensures c.if_stmt-in-IfElse.ensures

pub stmt-returns-in-While : goal.stmt-returns-in-While
stmt-returns-in-While t c = while_gives _ _ _ _ _ _ _ _ _ _ (omega arith) c.in-While.is c.get-in-While.ensures c.while_stmt.ensures

pub block_stmt-loop-one-preserved : goal.block_stmt-loop-one-preserved
block_stmt-loop-one-preserved t c =
    block_step c.args.depth _ c.as_slice-one-items.result.now c.loop-one.one-index c.one-item.result _ _ c.loop-one.all c.with_part-all.result c.stmt.result _
    (omega arith) c.one-item.is c.with_part-all.ensures c.stmt.ensures.made c.stmt.ensures.visible c.loop-one.invariant

pub block_stmt-returns-in-Ok : goal.block_stmt-returns-in-Ok
block_stmt-returns-in-Ok t c =
    let over : drop c.loop-one.one-index c.as_slice-one-items.result.now ≡ [] = grind (arith, common_steps) in
    let whole = rw c.in-Ok.is at c.loop-one.invariant in
    block_end c.args.depth _ c.as_slice-one-items.result.now c.loop-one.one-index _ _ c.in-Ok.stmts.items c.block.result c.args.one.now
    over c.as_slice-one-items.ensures (rw c.from_vec.ensures at c.block.ensures) (whole tt)

pub stmt-returns-in-For : goal.stmt-returns-in-For
stmt-returns-in-For t c = for_gives _ _ _ _ _ _ _ _ _ _ _ _ (omega arith) c.in-For.is c.get-in-For.ensures c.for_stmt.ensures

pub stmt-returns-in-Local : goal.stmt-returns-in-Local
stmt-returns-in-Local t c = local_gives _ _ _ _ _ _ _ _ _ _ (omega arith) c.in-Local.is c.local_stmt.ensures

pub for_stmt-returns : goal.for_stmt-returns
for_stmt-returns t c =
    for_lent _ _ _ _ (spec.stmt_to c.args.depth) (context_of c.args.context.now) (context_of c.looping.result) c.args.place c.place_of-place.result c.args.keys.now c.args.named.now c.args.over.now c.args.body.now
    c.over_and_types-over.result c.loop_names-names.result c.stmt-body.result c.looping.ensures c.place_of-place.ensures
    c.over_and_types-over.ensures.over c.loop_names-names.ensures c.stmt-body.ensures c.for_made.ensures.made c.for_made.ensures.known

pub stmt-returns-in_default : goal.stmt-returns-in_default
stmt-returns-in_default t c =
    let plain : IsTrue (is_plain c.args.one.now) = search rules in
    plain_gives _ c.args.locals.now c.args.depth (context_of c.args.context.now) c.args.one.now (omega arith) plain c.plain_stmt.ensures
