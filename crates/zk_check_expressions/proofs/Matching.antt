-- Arguments with their parameters, one after another.
use Rattle.std.proofs.Common.{◌≡◌, ℕ, suc, ◌+◌, ◌<◌, ◌≤◌, Result, Ok, List, [], ◌∷◌, length, map, drop, get_or, refl, ap, sym, ◌∙◌, subst, drop-cons, add-one, ◌==◌}
use Rattle.std.proofs.lemmas.List.{drop_all, length-map}
use Rattle.std.specs.declared.alloc.Global.{Global}
use Rattle.std.specs.declared.vec.Vec.{Vec}
use Rattle.zk_tree.specs.declared.expr.Item.{Item}
use Rattle.zk_tree.specs.declared.expr.Part.{Part}
use Rattle.zk_tree.specs.declared.place.Place.{Place}
use Rattle.zk_check_operators.specs.declared.operands.Typed.{Typed as RustTyped}
use Rattle.zk_check_operators.proofs.BothLaws.{along_tells}
use Rattle.zk_check_operators.specs.Gather.{IsAlong}
use Rattle.zk_check_operators.specs.Gathering.{IsNext}
use Rattle.zk_check_operators.specs.Views.{typed_of, all_typed}
use Rattle.zk_typed.specs.declared.refusal.Refusal.{Refusal}
use Rattle.zk_typed.specs.declared.script.types.ValueType as declared
use Rattle.zk_typed.specs.declared.rule.Rule.{Rule}
use Rattle.zk_typed.specs.Checked.{Checked, each}
use Rattle.zk_typed.specs.Making.{argument, as_many, matched, part_typed, parts_typed}
use Rattle.zk_typed.specs.Tells.{Tells}
use Rattle.zk_typed.specs.Types.{ValueType}
use Rattle.zk_typed.specs.Typing.{Typed, Env, Check, Unclear, Wants}
use Rattle.zk_typed.specs.View.{type_of}
use Rattle.zk_check_expressions.specs.Parts.{with_last}
use Rattle.zk_check_expressions.specs.Refusing.{Holds}
use Rattle.zk_check_expressions.proofs.Eaches.{with_first, with_rest, rest_turn, no_rest, next_tells}
use Rattle.zk_check_expressions.proofs.Refusals.{held}

-- what is told where a list of parts goes on as another
abbrev pub GoesOn : Result (Vec RustTyped Global) Refusal → Checked (List Typed) → Checked (List Typed) → Type 0
GoesOn all more whole = (now : Checked (List Typed)) × Tells all_typed all now × (with_rest now more ≡ whole)

pub front_of : {A : Type 0} (items : List A) (i : ℕ) (item : A) → i < length items → item ≡ get_or items i item → drop i items ≡ item ∷ drop (i + 1) items
front_of items i item within is = rw add-one (drop-cons items i item within ∙ ap (λ x. x ∷ drop (suc i) items) (sym is))

-- what stands before some parts, with one more of them
pub parts_turn : (check : Check) (env : Env) (place : Place) (now : Checked Typed) (parts : List Part) (i : ℕ) (part : Part) (whole : Checked Typed) → i < length parts → part ≡ get_or parts i part →
    parts_typed check env place now (drop i parts) ≡ whole → parts_typed check env place (part_typed check env place now part) (drop (i + 1) parts) ≡ whole
parts_turn check env place now parts i part whole within is before =
    sym (ap (parts_typed check env place now) (front_of parts i part within is)) ∙ before

pub matched_turn : (check : Check) (env : Env) (others rest : List declared.ValueType) (param : declared.ValueType) (items : List Item) (i : ℕ) (item : Item)
    (all : Result (Vec RustTyped Global) Refusal) (part : Result RustTyped Refusal) (next : Result (Vec RustTyped Global) Refusal) (whole : Checked (List Typed)) →
    others ≡ param ∷ rest → i < length items → item ≡ get_or items i item →
    GoesOn all (matched check env (map type_of others) (drop i items)) whole → Tells typed_of part (argument check env (Wants (type_of param)) item) → IsNext all part next →
    GoesOn next (matched check env (map type_of rest) (drop (i + 1) items)) whole
matched_turn check env others rest param items i item all part next whole front within is before told step =
    let here : Checked Typed = argument check env (Wants (type_of param)) item in
    let left : matched check env (map type_of others) (drop i items) ≡ with_first here (matched check env (map type_of rest) (drop (i + 1) items)) =
    ap (λ params. matched check env (map type_of params) (drop i items)) front ∙ ap (matched check env (type_of param ∷ map type_of rest)) (front_of items i item within is) in
    (with_last before.0 here, next_tells all part next before.0 here before.1 told step, rest_turn before.0 here _ ∙ ap (with_rest before.0) (sym left) ∙ before.2)

matched_none : (check : Check) (env : Env) (params : List ValueType) → matched check env params [] ≡ Ok []
matched_none check env [] = refl
matched_none check env (param ∷ params) = refl

pub none_left : (items : List Item) (i : ℕ) → length items ≤ i → drop i items ≡ []
none_left items i past = drop_all i items past

pub matched_end : (check : Check) (env : Env) (params : List ValueType) (items : List Item) (i : ℕ) (all : Result (Vec RustTyped Global) Refusal) (whole : Checked (List Typed)) →
    length items ≤ i → GoesOn all (matched check env params (drop i items)) whole → Tells all_typed all whole
matched_end check env params items i all whole past before =
    let left : matched check env params (drop i items) ≡ Ok [] = ap (matched check env params) (none_left items i past) ∙ matched_none check env params in
    let same : before.0 ≡ whole = sym (no_rest before.0) ∙ ap (with_rest before.0) (sym left) ∙ before.2 in
    subst (λ (x : Checked (List Typed)). Tells all_typed all x) same before.1

-- items as many as these types, and those past the types
pub many_told : (check : Check) (env : Env) (rule : Rule) (place : Place) (types : List declared.ValueType) (items : List Item) (placed counted others whole : Result (Vec RustTyped Global) Refusal) →
    Tells all_typed placed (matched check env (map type_of types) items) → Holds (length types == length items) rule place placed counted →
    Tells all_typed others (each (argument check env Unclear) (drop (length types) items)) → IsAlong counted others whole →
    Tells all_typed whole (as_many check env rule place (map type_of types) items)
many_told check env rule place types items placed counted others whole told holds beside is =
    rw (length-map types type_of) (along_tells all_typed all_typed counted others whole _ _ (held all_typed (length types == length items) rule place placed counted _ holds told) beside is)
