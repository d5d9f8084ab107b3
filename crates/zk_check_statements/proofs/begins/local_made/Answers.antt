use Rattle.std.proofs.Common.{Bool, ap, subst, ◌∙◌}
use Rattle.zk_check_expressions.specs.Envs.{locals_of}
use Rattle.zk_typed.specs.Checked.{Checked}
use Rattle.zk_typed.specs.Forms as form
use Rattle.zk_typed.specs.Statements.{local_type, local_value}
use Rattle.zk_typed.specs.Tells.{Tells}
use Rattle.zk_typed.specs.Types.{ValueType}
use Rattle.zk_typed.specs.View.{stmt_of}
use Rattle.zk_check_statements.specs.Begins.{named, once, stmt_behind}
use Rattle.zk_check_statements.specs.Bodies.{context_of}
use Rattle.zk_check_statements.proofs.BegunLaws.{named_whole}
use Rattle.zk_check_statements.proofs.begins.local_made.Goals as goal

pub returns : goal.returns
returns c =
    let context = context_of c.args.context.now in
    let locals = locals_of c.args.locals.now in
    let value : Checked (ValueType × form.Stmt) = local_value context locals c.args.place (local_type context locals c.args.tree.now) c.args.init.now in
    let said : Checked (Unit {0}) = once c.args.name.now locals c.args.place in
    let P : Checked form.Stmt → Type 0 = λ wanted. Tells stmt_of c.named-made.result wanted in
    record {
      made = subst P (ap (λ (bare : Bool). named bare said (stmt_behind value)) c.is_bare.ensures ∙ named_whole c.args.tree.now c.args.init.now said value)
          (c.named-made.ensures.made said (stmt_behind value) c.once-once.ensures c.local_begun-value_type.ensures.made);
      known = λ told. c.local_begun-value_type.ensures.known (c.named-made.ensures.known told);
    }
