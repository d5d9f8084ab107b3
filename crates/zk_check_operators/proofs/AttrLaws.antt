-- The rules of attributes, one by one.
use Rattle.std.specs.List.{list_any}
use Rattle.std.proofs.Common.{◌≡◌, ℕ, zero, suc, ◌+◌, ◌-◌, ◌<◌, ◌≤◌, Bool, true, false, List, ◌∷◌, Some, length, drop, get_or, slice_get, sym, ap, ◌∙◌, add-one, drop-cons, arith}
use Rattle.std.proofs.lemmas.Option.{slice_get-get_or}
use Rattle.zk_tree.specs.declared.types.Attr.{Attr}
use Rattle.zk_typed.specs.Checked.{Checked, both}
use Rattle.zk_typed.specs.Declarations.{nothing, attr_rules, with_value}
use Rattle.zk_typed.specs.LoadOrder.{Home}
use Rattle.zk_check_operators.specs.Attributes.{name_of, before, one_rule}

-- an attribute, and those behind it
pub rules_step : (home : Home) (allowed : List ℕ → Bool) (value_rules : Attr → Checked (Unit {0})) (index : ℕ) (attrs : List Attr) (attr : Attr) →
    index < length attrs → attr ≡ get_or attrs index attr →
    attr_rules home allowed with_value value_rules (before index attrs) (drop index attrs) ≡
    nothing (both (one_rule home allowed value_rules (before index attrs) attr) (attr_rules home allowed with_value value_rules (before (index + 1) attrs) (drop (index + 1) attrs)))
rules_step home allowed value_rules index attrs attr within is =
    let front : drop index attrs ≡ attr ∷ drop (suc index) attrs = drop-cons attrs index attr within ∙ ap (λ one. one ∷ drop (suc index) attrs) (sym is) in
    let name : name_of (slice_get attrs index) ≡ attr.name = ap name_of (slice_get-get_or attrs index attr within ∙ ap Some (sym is)) in
    rw (front, add-one) (ap (λ one. nothing (both (one_rule home allowed value_rules (before index attrs) attr) (attr_rules home allowed with_value value_rules (one ∷ before index attrs) (drop (suc index) attrs)))) (sym name))

-- going back through names, none passes so far
pub none_so_far : (p : List ℕ → Bool) (at : ℕ) (attrs : List Attr) (attr : Attr) (name : List ℕ) (test whole : Bool) →
    0 < at → at ≤ length attrs → name ≡ (get_or attrs (at - 1) attr).name → test ≡ p name → test ≡ false →
    list_any p (before at attrs) ≡ whole → list_any p (before (at - 1) attrs) ≡ whole
none_so_far p zero attrs attr name test whole some within named tested failed all = absurd (omega arith)
none_so_far p (suc at) attrs attr name test whole some within named tested failed all =
    let less : suc at - 1 ≡ at = omega arith in
    let inside : at < length attrs = omega arith in
    let same : name ≡ (get_or attrs at attr).name = rw less at named in
    let here : name_of (slice_get attrs at) ≡ name = ap name_of (slice_get-get_or attrs at attr inside) ∙ sym same in
    let fails : p (name_of (slice_get attrs at)) ≡ false = ap p here ∙ sym tested ∙ failed in
    rw less (rw fails at all)

-- one passes
pub one_found : (p : List ℕ → Bool) (at : ℕ) (attrs : List Attr) (attr : Attr) (name : List ℕ) (test whole : Bool) →
    0 < at → at ≤ length attrs → name ≡ (get_or attrs (at - 1) attr).name → test ≡ p name → test ≡ true →
    list_any p (before at attrs) ≡ whole → true ≡ whole
one_found p zero attrs attr name test whole some within named tested found all = absurd (omega arith)
one_found p (suc at) attrs attr name test whole some within named tested found all =
    let less : suc at - 1 ≡ at = omega arith in
    let inside : at < length attrs = omega arith in
    let same : name ≡ (get_or attrs at attr).name = rw less at named in
    let here : name_of (slice_get attrs at) ≡ name = ap name_of (slice_get-get_or attrs at attr inside) ∙ sym same in
    let passes : p (name_of (slice_get attrs at)) ≡ true = ap p here ∙ sym tested ∙ found in
    rw passes at all
