use Rattle.std.proofs.Common.{sym, ap, ◌∙◌, subst}
use Rattle.zk_check_expressions.specs.Envs.{env_of, side_of}
use Rattle.zk_tree.specs.declared.operator.Assigning.{Assigning}
use Rattle.zk_typed.specs.Checked.{Checked}
use Rattle.zk_typed.specs.Expressions.{expr_typed}
use Rattle.zk_typed.specs.Forms as form
use Rattle.zk_typed.specs.Tells.{Tells}
use Rattle.zk_typed.specs.View.{stmt_of}
use Rattle.zk_check_statements.specs.Assigning.{by_operator}
use Rattle.zk_check_statements.proofs.Acts.{set_is}
use Rattle.zk_check_statements.proofs.assigning.by_operator.Goals as goal

pub returns-in-Set : goal.returns-in-Set
returns-in-Set c =
    let env = env_of c.args.env.now in
    let P : Checked form.Stmt → Type 0 = λ wanted. Tells stmt_of c.set.result wanted in
    let judged : Assigning → Checked form.Stmt = λ operator. by_operator (expr_typed env) env c.args.place c.args.left_place c.args.right.now operator (side_of c.args.side) in
    subst P (set_is (expr_typed env) env c.args.place c.args.left_place c.args.right.now (side_of c.args.side) ∙ ap judged (sym c.in-Set.is)) c.set.ensures
