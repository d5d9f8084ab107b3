-- A vector by the type of its items.
use Rattle.std.proofs.Common.{◌≡◌, Bool, true, false, List, [], ◌∷◌, Ok, refl}
use Rattle.zk_tree.specs.declared.place.Place.{Place}
use Rattle.zk_typed.specs.declared.rule.Rule.TheVariants as rule
use Rattle.zk_typed.specs.declared.script.primitive.Primitive.TheVariants as primitive
use Rattle.zk_typed.specs.Checked.{Checked, require, ◌>>=◌, ◌>>◌}
use Rattle.zk_typed.specs.Making.{types_same, vector_alone}
use Rattle.zk_typed.specs.Types.{ValueType, Vector}
use Rattle.zk_typed.specs.Typing.{Typed, typed, apply}
use Rattle.zk_check_operators.specs.Rows.{vector_type}

by_test : (test : Bool) (place : Place) (type : ValueType) (all : List Typed) →
    (require test rule.WrongType place >> Ok (typed type (apply primitive.NewVector all))) ≡
    ((require test rule.WrongType place >> Ok type) >>= (λ made. Ok (typed made (apply primitive.NewVector all))))
by_test true place type all = refl
by_test false place type all = refl

pub vector_is : (place : Place) (all : List Typed) → vector_alone place all ≡ (vector_type place all >>= (λ type. Ok (typed type (apply primitive.NewVector all))))
vector_is place [] = refl
vector_is place (first ∷ others) = by_test (types_same first.type others) place (Vector first.type) (first ∷ others)
