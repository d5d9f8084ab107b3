-- The broken rule that is told first.
use Rattle.std.proofs.Common.{◌≡◌, ℕ, zero, suc, ◌-◌, ◌<◌, ◌≤◌, Bool, true, false, List, [], ◌∷◌, length, drop, get_or, drop-cons, Option, Some, refl, ap, sym, ◌∙◌, if◌then◌else◌, arith}
use Rattle.zk_typed.specs.declared.refusal.Broken.{Broken}
use Rattle.zk_typed.specs.Errors.{by_place, is_told_before, placed}
use Rattle.zk_check.specs.Faults.{head_of}
use Rattle.zk_check.specs.Sooner.{sooner}

by_test : (one other : Broken) (others : List Broken) (b : Bool) →
    head_of (elim b as (λ _. List Broken) [ true ↦ other ∷ placed one others | false ↦ one ∷ other ∷ others ]) ≡ Some (if b then other else one)
by_test one other others true = refl
by_test one other others false = refl

head_placed : (one : Broken) (others : List Broken) → head_of (placed one others) ≡ Some (sooner (head_of others) one)
head_placed one [] = refl
head_placed one (other ∷ others) = by_test one other others (is_told_before other one)

-- of a broken rule and those behind it
pub sooner_first : (one : Broken) (others : List Broken) → head_of (by_place (one ∷ others)) ≡ Some (sooner (head_of (by_place others)) one)
sooner_first one others = head_placed one (by_place others)

-- going back through broken rules
pub first_turn : (rules : List Broken) (at : ℕ) (first : Option Broken) (found one : Broken) → 0 < at → at ≤ length rules → first ≡ head_of (by_place (drop at rules)) →
    found ≡ sooner first (get_or rules (at - 1) one) → Some found ≡ head_of (by_place (drop (at - 1) rules))
first_turn rules zero first found one some within known is = absurd (omega arith)
first_turn rules (suc at) first found one some within known is =
    let less : suc at - 1 ≡ at = omega arith in
    let inside : at < length rules = omega arith in
    let here : found ≡ sooner first (get_or rules at one) = is ∙ ap (λ n. sooner first (get_or rules n one)) less in
    ap Some here ∙ ap (λ given. Some (sooner given (get_or rules at one))) known ∙ sym (sooner_first (get_or rules at one) (drop (suc at) rules)) ∙
    ap (λ left. head_of (by_place left)) (sym (drop-cons rules at one inside)) ∙ ap (λ n. head_of (by_place (drop n rules))) (sym less)
