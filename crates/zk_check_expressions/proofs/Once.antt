-- The fields that a constructor gives: none of them twice, and all that it has to.
use Rattle.std.proofs.Common.{◌≡◌, ℕ, ◌+◌, ◌==◌, Bool, true, false, not, ◌&&◌, ◌||◌, List, [], ◌∷◌, ◌++◌, Ok, Err, length, map, refl, ap, sym, ◌∙◌, append_assoc, append-nil}
use Rattle.std.specs.List.{list_any}
use Rattle.zk_tree.specs.declared.expr.Item.{Item}
use Rattle.zk_tree.specs.declared.place.Place.{Place}
use Rattle.zk_typed.specs.declared.refusal.Broken.{Broken}
use Rattle.zk_typed.specs.declared.rule.Rule.TheVariants as rule
use Rattle.zk_typed.specs.Checked.{Checked, both, require, ◌>>=◌, ◌>>◌, rules_of}
use Rattle.zk_typed.specs.Making.{GivenField, item_place, given_once, givens}
use Rattle.zk_typed.specs.Typing.{Env}
use Rattle.zk_typed.specs.declared.script.expr.Given.{Given}
use Rattle.zk_typed.specs.Forms.{Givens, NoField}
use Rattle.zk_check_expressions.specs.declared.records.GivenField.{GivenField as RustGiven}
use Rattle.zk_check_expressions.proofs.Leftovers.{none_over}
use Rattle.zk_check_expressions.specs.Records.{given_of, IsGiven, again_rules, twice_rules, as_given, all_fields}

abbrev pub told_of : List Broken → Checked (Unit {0})
told_of [] = Ok tt
told_of (one ∷ others) = Err (one ∷ others)

rules_told : (rules : List Broken) → rules_of (told_of rules) ≡ rules
rules_told [] = refl
rules_told (one ∷ others) = refl

once_more : (before : Bool) (place : Place) (rules : List Broken) →
    (both (require (not before) rule.Twice place) (told_of rules) >> Ok tt) ≡ told_of (again_rules before place ++ rules)
once_more true place rules = ap (λ more. Err (record { rule = rule.Twice; place = place } ∷ more)) (rules_told rules)
once_more false place [] = refl
once_more false place (one ∷ others) = refl

twice_not : (one : Bool) → not (not one) ≡ one
twice_not true = refl
twice_not false = refl

pub once_is : (env : Env) (before : List ℕ) (items : List Item) (given : List GivenField) → given_once env before items given ≡ told_of (twice_rules env before items given)
once_is env before [] given = refl
once_is env before (item ∷ items) [] = refl
once_is env before (item ∷ items) (one ∷ others) =
    ap (λ more. both (require (not (list_any (λ number. number == one.number) before)) rule.Twice (item_place env item)) more >> Ok tt) (once_is env (one.number ∷ before) items others)
    ∙ once_more (list_any (λ number. number == one.number) before) (item_place env item) (twice_rules env (one.number ∷ before) items others)

-- the fields that are given, before others
abbrev pub given_behind : List Given → Givens → Givens
given_behind [] others = others
given_behind (one ∷ more) others = as_given one (given_behind more others)

pub given_more : (all : List Given) (one : Given) (others : Givens) → given_behind (all ++ one ∷ []) others ≡ given_behind all (as_given one others)
given_more [] one others = refl
given_more (first ∷ all) one others = ap (as_given first) (given_more all one others)

pub given_all : (all : List Given) → given_behind all NoField ≡ all_fields all
given_all [] = refl
given_all (one ∷ more) = ap (as_given one) (given_all more)

-- a field more is given
pub givens_turn : (env : Env) (all next : List Given) (made : Given) (one : RustGiven) (items more : List RustGiven) (whole : Givens) →
    items ≡ one ∷ more → IsGiven env one made → next ≡ all ++ made ∷ [] → given_behind all (givens env (map given_of items)) ≡ whole → given_behind next (givens env (map given_of more)) ≡ whole
givens_turn env all next made one items more whole here given last before =
    ap (λ (x : List Given). given_behind x (givens env (map given_of more))) last
    ∙ given_more all made (givens env (map given_of more))
    ∙ ap (given_behind all) (given (givens env (map given_of more)))
    ∙ ap (λ (x : List RustGiven). given_behind all (givens env (map given_of x))) (sym here)
    ∙ before

pub givens_end : (env : Env) (all : List Given) (items : List RustGiven) (len : ℕ) (whole : Givens) → len ≡ length items → len ≡ 0 → given_behind all (givens env (map given_of items)) ≡ whole → all_fields all ≡ whole
givens_end env all items len whole same none before =
    sym (given_all all) ∙ ap (λ (x : List RustGiven). given_behind all (givens env (map given_of x))) (sym (none_over items len same none)) ∙ before

-- an item more is looked at
pub again_turn : (env : Env) (rules next : List Broken) (before : List ℕ) (new : Bool) (place : Place) (item : Item) (items left : List Item) (one : RustGiven) (others rest : List RustGiven) (whole : List Broken) →
    left ≡ item ∷ items → others ≡ one ∷ rest → place ≡ item_place env item → new ≡ not (list_any (λ number. number == one.number) before) → next ≡ rules ++ again_rules (not new) place →
    rules ++ twice_rules env before left (map given_of others) ≡ whole → next ++ twice_rules env (one.number ∷ before) items (map given_of rest) ≡ whole
again_turn env rules next before new place item items left one others rest whole front here spot fresh told so_far =
    let again : again_rules (not new) place ≡ again_rules (list_any (λ number. number == one.number) before) (item_place env item) =
    ap (λ (x : Bool). again_rules (not x) place) fresh ∙ ap (λ (x : Bool). again_rules x place) (twice_not (list_any (λ number. number == one.number) before)) ∙ ap (again_rules _) spot in
    ap (λ (x : List Broken). x ++ twice_rules env (one.number ∷ before) items (map given_of rest)) (told ∙ ap (λ (x : List Broken). rules ++ x) again)
    ∙ append_assoc rules _ _
    ∙ ap (λ (x : List RustGiven). rules ++ twice_rules env before (item ∷ items) (map given_of x)) (sym here)
    ∙ ap (λ (x : List Item). rules ++ twice_rules env before x (map given_of others)) (sym front)
    ∙ so_far

none_given : (env : Env) (before : List ℕ) (items : List Item) → twice_rules env before items [] ≡ []
none_given env before [] = refl
none_given env before (item ∷ items) = refl

-- no item is left, or no field
pub again_end : (env : Env) (rules : List Broken) (before : List ℕ) (items : List Item) (others : List RustGiven) (whole : List Broken) →
    others ≡ [] → rules ++ twice_rules env before items (map given_of others) ≡ whole → rules ≡ whole
again_end env rules before items others whole none so_far =
    sym (append-nil rules) ∙ ap (λ (x : List Broken). rules ++ x) (sym (none_given env before items)) ∙ ap (λ (x : List RustGiven). rules ++ twice_rules env before items (map given_of x)) (sym none) ∙ so_far

pub again_all : (env : Env) (rules : List Broken) (before : List ℕ) (items : List Item) (others : List RustGiven) (whole : List Broken) →
    items ≡ [] → rules ++ twice_rules env before items (map given_of others) ≡ whole → rules ≡ whole
again_all env rules before items others whole none so_far =
    sym (append-nil rules) ∙ ap (λ (x : List Item). rules ++ twice_rules env before x (map given_of others)) (sym none) ∙ so_far
