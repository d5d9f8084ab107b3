-- How an expression ends, and what an index that fits is.
use Rattle.std.proofs.Common.{◌≡◌, ℕ, suc, ◌+◌, ◌-◌, ◌==◌, slice_get, arith, Bool, true, false, not, ◌&&◌, List, [], ◌∷◌, ◌++◌, length, Option, Some, None, Ok, Err, refl, ap, sym, ◌∙◌}
use Rattle.std.specs.List.{list_all}
use Rattle.zk_tree.specs.declared.expr.Expr.{Expr}
use Rattle.zk_tree.specs.declared.expr.Item.{Item}
use Rattle.zk_tree.specs.declared.expr.Link.{Link}
use Rattle.zk_tree.specs.declared.expr.Part.{Part, out-Part}
use Rattle.zk_tree.specs.declared.expr.Expr.TheOpen.{Part-F}
use Rattle.zk_tree.specs.declared.expr.Expr.TheOpen as written
use Rattle.zk_tree.specs.declared.place.Place.{Place}
use Rattle.zk_typed.specs.declared.rule.Rule.TheVariants as rule
use Rattle.zk_typed.specs.declared.script.primitive.Primitive.TheVariants as primitive
use Rattle.zk_typed.specs.declared.script.types.SimpleType.{SimpleType}
use Rattle.zk_typed.specs.declared.script.types.SimpleType.TheVariants as simple
use Rattle.zk_typed.specs.Checked.{Checked, both, require, broken, or_broken, ◌>>=◌, ◌>>◌}
use Rattle.zk_typed.specs.Expressions.{ends_in_element}
use Rattle.zk_typed.specs.Forms as form
use Rattle.zk_typed.specs.Making.{keys_fit, element, set_alone, simple_types, joined, plain_shape}
use Rattle.zk_typed.specs.Operations.{same_type}
use Rattle.zk_typed.specs.Types.{ValueType, Simple, Vector, Set}
use Rattle.zk_typed.specs.Typing.{Typed, typed, Env, apply, expr_place, fits}

abbrev pub is_element : Part-F Expr Item Part Link → Bool
is_element (written.Part::Field name) = true
is_element (written.Index keys) = true
is_element other = false

abbrev pub ends_by : Option Part → Bool
ends_by None = false
ends_by (Some part) = is_element (out-Part part)

ends_one : (part : Part) → ends_in_element (part ∷ []) ≡ is_element (out-Part part)
ends_one part = elim (out-Part part) [ written.Part::Field name ↦ refl | written.HasField name ↦ refl | written.Index keys ↦ refl | written.Call items ↦ refl ]

-- an expression ends as its last part
pub ends_is : (before : List Part) (last : Part) → ends_in_element (before ++ last ∷ []) ≡ is_element (out-Part last)
ends_is [] last = ends_one last
ends_is (one ∷ []) last = ends_one last
ends_is (one ∷ (two ∷ before)) last = ends_is (two ∷ before) last

-- one key that fits is one value
by_one : (one : Checked Typed) (place : Place) (as_many : Bool) (k l : List Typed → Checked Typed) → ((value : Typed) → k (value ∷ []) ≡ l (value ∷ [])) →
    (((both one (Ok []) >>= (λ (parts : Typed × List Typed). Ok (parts.0 ∷ parts.1))) >>= (λ (fitting : List Typed). require (1 == length fitting && as_many) rule.WrongType place >> Ok fitting)) >>= k) ≡
    (((both one (Ok []) >>= (λ (parts : Typed × List Typed). Ok (parts.0 ∷ parts.1))) >>= (λ (fitting : List Typed). require (1 == length fitting && as_many) rule.WrongType place >> Ok fitting)) >>= l)
by_one (Ok value) place true k l same = same value
by_one (Ok value) place false k l same = refl
by_one (Err rules) place as_many k l same = refl

pub one_key : (env : Env) (place : Place) (key : SimpleType) (written : List Expr) (values : List Typed) (k l : List Typed → Checked Typed) → ((value : Typed) → k (value ∷ []) ≡ l (value ∷ [])) →
    (keys_fit env place (key ∷ []) written values >>= k) ≡ (keys_fit env place (key ∷ []) written values >>= l)
one_key env place key [] values k l same = refl
one_key env place key (one ∷ others) [] k l same = refl
one_key env place key (one ∷ others) (first ∷ more) k l same = by_one (or_broken (fits (Simple key) first) rule.WrongType (expr_place env one)) place (1 == length (first ∷ more)) k l same

-- an item of a vector
pub item_is : (env : Env) (place : Place) (item : ValueType) (expr : form.Expr) (written : List Expr) (values : List Typed) →
    element env place (typed (Vector item) expr) written values ≡
    (keys_fit env place (simple.Count ∷ []) written values >>= (λ fitting. Ok (typed item (apply primitive.Item (typed (Vector item) expr ∷ fitting)))))
item_is env place item expr written values = one_key env place simple.Count written values _ _ (λ value. refl)

pub ends_last : (parts : List Part) → ends_in_element parts ≡ ends_by (slice_get parts (length parts - 1))
ends_last [] = refl
ends_last (one ∷ []) = ends_one one
ends_last (one ∷ (two ∷ parts)) =
    let before : suc (length (two ∷ parts) - 1) ≡ length (one ∷ (two ∷ parts)) - 1 = omega arith in
    ends_last (two ∷ parts) ∙ ap (λ at. ends_by (slice_get (one ∷ (two ∷ parts)) at)) before
