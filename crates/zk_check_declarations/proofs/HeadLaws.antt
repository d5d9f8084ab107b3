-- The heads of bodies: the parameters and the result that they write, as those of a signature.
use Rattle.std.proofs.Common.{◌≡◌, List, [], ◌∷◌, ◌&&◌, Option, Some, None, Ok, Err, refl, ap, ◌∙◌}
use Rattle.zk_tree.specs.declared.name.Name.{Name}
use Rattle.zk_tree.specs.declared.place.Place.{Place}
use Rattle.zk_tree.specs.declared.types.Param.{Param, out-Param}
use Rattle.zk_tree.specs.declared.types.Type.{«Type»}
use Rattle.zk_typed.specs.declared.rule.Rule.TheVariants as rule
use Rattle.zk_typed.specs.Checked.{Checked, both, each, require, ◌>>=◌}
use Rattle.zk_typed.specs.Errors.{head_rules, matches, same_result, same_types}
use Rattle.zk_typed.specs.LoadOrder.{Home}
use Rattle.zk_typed.specs.Names.{Declared, Meant, Signature, Written}
use Rattle.zk_typed.specs.Resolving.{Scripts, hushed, maybe_type, type_of}
use Rattle.zk_typed.specs.Types.{ValueType}
use Rattle.zk_check_declarations.specs.Signing.{alike, of_kind, signed}

hushed_more : {B : Type 0} (a : Checked B) (b : Checked (List B)) →
    (both (hushed a) (hushed b) >>= (λ parts. Ok (parts.0 ∷ parts.1))) ≡ hushed (both a b >>= (λ parts. Ok (parts.0 ∷ parts.1)))
hushed_more (Ok a) (Ok b) = refl
hushed_more (Ok a) (Err rules) = refl
hushed_more (Err rules) (Ok b) = refl
hushed_more (Err rules) (Err more) = refl

-- what each part rests on is told elsewhere, and so what all rest on
each_hushed : {A B : Type 0} (check : A → Checked B) (xs : List A) → each (λ x. hushed (check x)) xs ≡ hushed (each check xs)
each_hushed check [] = refl
each_hushed check (x ∷ xs) = ap (λ more. both (hushed (check x)) more >>= (λ parts. Ok (parts.0 ∷ parts.1))) (each_hushed check xs) ∙ hushed_more (check x) (each check xs)

matched : Scripts → Place → Checked (List ValueType × Option ValueType) → Signature → Checked (Unit {0})
matched scripts place given declared =
    both given (signed scripts declared) >>= (λ parts. require (same_types parts.0.0 parts.1.0 && same_result parts.0.1 parts.1.1) rule.Arguments place)

matches_is : (scripts : Scripts) (home : Home) (place : Place) (params : List Param) (given : Option «Type») (declared : Signature) →
    matches scripts home place params given declared ≡ alike scripts place (Written home params given) declared
unfolding matched
matches_is scripts home place params given declared =
    ap (λ types. matched scripts place (both types (hushed (maybe_type scripts home given))) declared) (each_hushed (λ param. type_of scripts home (out-Param param).param_type) params)

by_kind : (scripts : Scripts) (home : Home) (place : Place) (name : Name) (kind : Meant → Option Signature) (params : List Param) (given : Option «Type») (one : Declared) (found : Option Signature) →
    kind one.meant ≡ found → head_rules scripts home place name kind params given (Some one) ≡ of_kind scripts home place name (Written home params given) found
by_kind scripts home place name kind params given one None e = rw e refl
by_kind scripts home place name kind params given one (Some declared) e = rw e (matches_is scripts home place params given declared)

-- the head of a body by the signature that its name has
pub head_is : (scripts : Scripts) (home : Home) (place : Place) (name : Name) (kind : Meant → Option Signature) (params : List Param) (given : Option «Type») (one : Declared) →
    head_rules scripts home place name kind params given (Some one) ≡ of_kind scripts home place name (Written home params given) (kind one.meant)
head_is scripts home place name kind params given one = by_kind scripts home place name kind params given one (kind one.meant) refl
