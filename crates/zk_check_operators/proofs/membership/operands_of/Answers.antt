use Rattle.std.proofs.Common.{List, [], ◌∷◌, ◌++◌, map, ap, sym, ◌∙◌}
use Rattle.std.proofs.lemmas.List.{map-append}
use Rattle.zk_typed.specs.declared.script.expr.Expr.{Expr}
use Rattle.zk_check_operators.specs.declared.operands.Typed.{Typed}
use Rattle.zk_check_operators.proofs.membership.operands_of.Goals as goal

pub loop-one-preserved : goal.loop-one-preserved
loop-one-preserved c =
    let expr : Typed → Expr = λ one. one.expr in
    c.in_ok-push.ensures.ok
    ∙ ap (λ (last : Expr). c.loop-one.operands ++ last ∷ []) c.into_expr.ensures
    ∙ ap (λ (front : List Expr). front ++ c.in-Some.one.expr ∷ []) c.loop-one.invariant
    ∙ sym (map-append expr c.loop-one.yielded (c.in-Some.one ∷ []))
