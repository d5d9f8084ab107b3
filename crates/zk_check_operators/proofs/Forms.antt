-- What the views give at the forms that are made.
use Rattle.std.proofs.Common.{◌≡◌, List, [], ◌∷◌, map, refl, sym, ◌∙◌, ap}
use Rattle.zk_typed.specs.declared.script.expr.Expr.{Expr}
use Rattle.zk_typed.specs.declared.script.expr.Expr.TheFolds.{fold-roll-Expr}
use Rattle.zk_typed.specs.declared.script.expr.Expr.TheOpen as layer
use Rattle.zk_typed.specs.declared.script.expr.Expr.TheVariants as expr
use Rattle.zk_typed.specs.declared.script.primitive.Primitive.{Primitive}
use Rattle.zk_typed.specs.Forms as form
use Rattle.zk_typed.specs.View.{exprs_of, expr_of, all_of, Prefixed, expr_step, given_step}

pub operands_are : (all : List Expr) → exprs_of (map expr_of all) ≡ all_of all
operands_are [] = refl
operands_are (first ∷ others) = ap (form.AndExpr (expr_of first)) (operands_are others)

pub apply_is : (primitive : Primitive) (operands : List Expr) → expr_of (expr.Apply primitive operands) ≡ form.Apply primitive (all_of operands)
apply_is primitive operands =
    ap expr_of (sym (expr.rolls-Apply primitive operands)) ∙ fold-roll-Expr form.Expr Prefixed expr_step given_step (layer.Apply primitive operands) ∙ ap (form.Apply primitive) (operands_are operands)
