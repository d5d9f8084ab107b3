-- A comparison by the operand that has a wrong type.
use Rattle.std.proofs.Common.{◌≡◌, Bool, true, false, Option, Some, None, Ok, if◌then◌else◌, [], ◌∷◌, refl}
use Rattle.zk_tree.specs.declared.place.Place.{Place}
use Rattle.zk_typed.specs.declared.rule.Rule.TheVariants as rule
use Rattle.zk_typed.specs.declared.script.primitive.Primitive.TheVariants as primitive
use Rattle.zk_typed.specs.declared.script.primitive.Relation.{Relation}
use Rattle.zk_typed.specs.Checked.{Checked, broken, require, ◌>>◌}
use Rattle.zk_typed.specs.Operations.{relates, same_type}
use Rattle.zk_typed.specs.Predefined as type
use Rattle.zk_typed.specs.Typing.{Typed, typed, apply, related}
use Rattle.zk_check_operators.specs.Rows.{wrong_operand}

abbrev pub or_wrong : Option Place → Typed → Checked Typed
or_wrong None made = Ok made
or_wrong (Some place) made = broken rule.WrongType place

by_tests : (r s : Bool) (first second : Place) (made : Typed) →
    (require r rule.WrongType first >> (require s rule.WrongType second >> Ok made)) ≡ or_wrong (if r then (if s then None else Some second) else Some first) made
by_tests true true first second made = refl
by_tests true false first second made = refl
by_tests false true first second made = refl
by_tests false false first second made = refl

pub related_is : (relation : Relation) (first second : Place) (a b : Typed) →
    related relation first second (a, b) ≡
    or_wrong (wrong_operand relation first second a.type b.type) (typed type.bool (apply (primitive.Compare relation) (a ∷ b ∷ [])))
related_is relation first second a b = by_tests (relates relation a.type) (same_type a.type b.type) first second _
