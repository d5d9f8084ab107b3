-- What can be assigned, by the primitive that makes its value.
use Rattle.std.proofs.Common.{◌≡◌, List, ap, ◌∙◌}
use Rattle.zk_tree.specs.declared.place.Place.{Place}
use Rattle.zk_typed.specs.declared.script.expr.Expr.{Expr}
use Rattle.zk_typed.specs.declared.script.expr.Expr.TheVariants as expr
use Rattle.zk_typed.specs.declared.script.primitive.Primitive.{Primitive}
use Rattle.zk_typed.specs.Expressions.{element_side}
use Rattle.zk_typed.specs.Forms as form
use Rattle.zk_typed.specs.Typing.{typed}
use Rattle.zk_typed.specs.View.{type_of, expr_of, all_of}
use Rattle.zk_check_operators.proofs.Forms.{apply_is}
use Rattle.zk_check_operators.specs.declared.operands.Typed.{Typed as RustTyped}
use Rattle.zk_check_operators.specs.Views.{typed_of}

pub element_at : (place : Place) (one : RustTyped) (made primitive : Primitive) (operands : List Expr) → one.expr ≡ expr.Apply made operands → made ≡ primitive →
    element_side place (typed_of one) ≡ element_side place (typed (type_of one.value_type) (form.Apply primitive (all_of operands)))
element_at place one made primitive operands here same =
    ap (λ (x : Expr). element_side place (typed (type_of one.value_type) (expr_of x))) here
    ∙ ap (λ (x : Primitive). element_side place (typed (type_of one.value_type) (expr_of (expr.Apply x operands)))) same
    ∙ ap (λ (x : form.Expr). element_side place (typed (type_of one.value_type) x)) (apply_is primitive operands)
