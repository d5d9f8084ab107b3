use Rattle.std.proofs.Common.{◌≡◌, IfOk, sym, ap, ◌∙◌, subst, length}
use Rattle.zk_check_expressions.specs.Envs.{env_of}
use Rattle.zk_typed.specs.declared.script.action.Left.TheVariants as left
use Rattle.zk_typed.specs.Forms as form
use Rattle.zk_typed.specs.View.{all_of, expr_of, stmt_of}
use Rattle.zk_check_statements.specs.Assigning.{assigned_to}
use Rattle.zk_check_statements.proofs.Acts.{alone, not_one}
use Rattle.zk_check_statements.proofs.assigning.field_assigned.Goals as goal

pub returns-then-len-ne1 : goal.returns-then-len-ne1
returns-then-len-ne1 c =
    c.in_ok-plainly.ensures ∙ not_one (env_of c.args.env.now) c.args.place c.args.field c.args.operands (expr_of c.args.value) (λ one. c.if-len-ne1.true (c.len.ensures ∙ one))

pub returns : goal.returns
returns c =
    let same : all_of c.args.operands ≡ form.AndExpr (expr_of c.in-Some.to) form.NoExpr =
    ap all_of c.in-Some.ensures ∙ alone c.pop.new.self c.in-Some.to (ap length (sym c.in-Some.ensures) ∙ sym c.len.ensures ∙ c.if-len-ne1.false) in
    let P : form.Exprs → Type 0 = λ operands. IfOk c.to_field.result (λ made. stmt_of made ≡ assigned_to (env_of c.args.env.now) c.args.place (left.Field c.args.field) operands (expr_of c.args.value)) in
    subst P (sym same) c.to_field.ensures
