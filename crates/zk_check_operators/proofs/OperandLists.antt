-- The operands that are the typed forms of a list of values.
use Rattle.std.proofs.Common.{◌≡◌, List, [], ◌∷◌, map, refl, ap}
use Rattle.zk_typed.specs.Forms as form
use Rattle.zk_typed.specs.Typing.{exprs}
use Rattle.zk_typed.specs.View.{all_of, expr_of}
use Rattle.zk_check_operators.specs.declared.operands.Typed.{Typed}
use Rattle.zk_check_operators.specs.Views.{typed_all}

pub exprs_are : (all : List Typed) → all_of (map (λ one. one.expr) all) ≡ exprs (typed_all all)
exprs_are [] = refl
exprs_are (one ∷ others) = ap (form.AndExpr (expr_of one.expr)) (exprs_are others)
