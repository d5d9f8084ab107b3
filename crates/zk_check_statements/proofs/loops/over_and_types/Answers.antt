use Rattle.std.proofs.Common.{Err, subst}
use Rattle.zk_check_expressions.specs.Envs.{locals_of}
use Rattle.zk_check_operators.specs.Views.{typed_of}
use Rattle.zk_tree.specs.declared.place.Place.{Place}
use Rattle.zk_typed.specs.Statements as spec
use Rattle.zk_typed.specs.Tells.{Tells}
use Rattle.zk_typed.specs.Typing as typing
use Rattle.zk_check_statements.specs.Bodies.{context_of}
use Rattle.zk_check_statements.specs.Over.{types_in}
use Rattle.zk_check_statements.proofs.Turning.{types_refused}
use Rattle.zk_check_statements.proofs.loops.over_and_types.Goals as goal

pub returns-in-Err-for_over-clause-over : goal.returns-in-Err-for_over-clause-over
returns-in-Err-for_over-clause-over c =
    let context = context_of c.args.context.now in
    let locals = locals_of c.args.locals.now in
    let types = λ (place : Place). spec.for_over context c.args.place place c.args.keys.now c.args.named.now in
    let P : Place → Type 0 = λ place. Tells types_in (Err c.in-Err-for_over.refusal) (types place (typed_of c.in-Ok.one)) in
    types_refused (spec.check_in context locals typing.Nothing c.args.over.now) (typed_of c.in-Ok.one) (types (typing.expr_place (spec.env_of context locals) c.args.over.now)) c.in-Err-for_over.refusal
    c.in-Ok.ensures (subst P (c.expr_place-over_place.ensures locals) c.in-Err-for_over.ensures.types)
