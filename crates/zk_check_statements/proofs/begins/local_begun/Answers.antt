use Rattle.std.proofs.Common.{Option, None, sym, subst}
use Rattle.zk_check_expressions.specs.Envs.{locals_of}
use Rattle.zk_tree.specs.declared.stmt.Init.{Init}
use Rattle.zk_tree.specs.declared.types.Type.{«Type»}
use Rattle.zk_typed.specs.Statements as spec
use Rattle.zk_check_statements.specs.Begins.{Begins}
use Rattle.zk_check_statements.specs.Bodies.{context_of}
use Rattle.zk_check_statements.proofs.begins.local_begun.Goals as goal

pub returns-in-None-init : goal.returns-in-None-init
returns-in-None-init c =
    let context = context_of c.args.context.now in
    let locals = locals_of c.args.locals.now in
    let P : Option «Type» → Option Init → Type 0 = λ tree init. Begins c.bare_local.result (spec.local_type context locals tree) (spec.local_value context locals c.args.place (spec.local_type context locals tree) init) in
    let Q : Option «Type» → Type 0 = λ tree. P tree None in
    let R : Option Init → Type 0 = λ init. P c.args.tree.now init in
    subst R (sym c.in-None-init.is) (subst Q (sym c.in-None.is) (c.bare_local.ensures context locals))
