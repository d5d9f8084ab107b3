-- The search for an order number among slots in their order.
use Rattle.std.proofs.Common.{◌≡◌, ℕ, zero, suc, ◌<◌, ◌≤◌, cond, List, [], ◌∷◌, length, get_or, slice_get, Some, None, Result, Ok, Err, refl, sym, ap, ◌∙◌, arith, ⊎_elim}
use Rattle.std.specs.Prelude.{IfSome, IfNone}
use Rattle.std.specs.Option.{option_map}
use Rattle.std.specs.Result.{result_ok}
use Rattle.std.specs.List.Sorted.{IsBinarySearchResult, IsSearchInRange}
use Rattle.std.specs.Ordering.{nat_cmp, ordering_index}
use Rattle.std.specs.declared.cmp.Ordering.TheVariants.{Less, Equal, Greater}
use Rattle.std.proofs.lemmas.Bool.{cases_lt}
use Rattle.std.proofs.lemmas.Bool.Decides.{nat_tests}
use Rattle.std.proofs.lemmas.Option.{slice_get-get_or, slice_get_within, get_or_from_slice_get}
use Rattle.zk_table.specs.declared.slot.Slot.{Slot}
use Rattle.zk_table.specs.Slots.{Ascends, stored_numbered, hole}
use Rattle.zk_table.proofs.SlotLemmas.{eqb-apart, ascends-at}

equal_is : (a b : ℕ) → nat_cmp a b ≡ Equal → a ≡ b
equal_is a b e = grind (arith, nat_tests)

less_is : (a b : ℕ) → nat_cmp a b ≡ Less → a < b
less_is a b e = grind (arith, nat_tests)

greater_is : (a b : ℕ) → nat_cmp a b ≡ Greater → b < a
greater_is a b e = grind (arith, nat_tests)

index_rises : (a b n : ℕ) → a ≤ b → ordering_index (nat_cmp a n) ≤ ordering_index (nat_cmp b n)
index_rises a b n le = grind (arith, nat_tests)

-- the order numbers rise from place to place
rises : (from : ℕ) (slots : List Slot) (below : ℕ) → Ascends from slots below → (i j : ℕ) (d : Slot) → i ≤ j → j < length slots → (get_or slots i d).order ≤ (get_or slots j d).order
rises from [] below up i j d le within = absurd (no_less within)
  where
    no_less : {n : ℕ} → n < 0 → ⊥
    no_less lt = omega (arith, lt)
rises from (slot ∷ slots) below up zero zero d le within = omega arith
rises from (slot ∷ slots) below up zero (suc j) d le within =
    let at = ascends-at (suc slot.order) slots below j (get_or slots j d) up.1 (slice_get-get_or slots j d (omega (arith, within))) in
    omega (arith, at)
rises from (slot ∷ slots) below up (suc i) zero d le within = absurd (no_less le)
  where
    no_less : {n : ℕ} → suc n ≤ 0 → ⊥
    no_less lt = omega (arith, lt)
rises from (slot ∷ slots) below up (suc i) (suc j) d le within = rises (suc slot.order) slots below up.1 i j d (omega (arith, le)) (omega (arith, within))

-- nothing is kept under a number that no slot has
never : (order : ℕ) (slots : List Slot) → ((place : ℕ) (slot : Slot) → slice_get slots place ≡ Some slot → slot.order ≡ order → ⊥) → stored_numbered order slots ≡ None
unfolding stored_numbered
never order [] absent = refl
never order (slot ∷ slots) absent =
    ap (λ t. cond t slot.entry (stored_numbered order slots)) (eqb-apart order slot.order (λ e. absent 0 slot refl (sym e)))
    ∙ never order slots (λ place other there is. absent (suc place) other there is)

pub searched-found : (order : ℕ) (slots : List Slot) (r : Result ℕ ℕ) → IsSearchInRange r (length slots) → IsBinarySearchResult (λ (y : Slot). nat_cmp y.order order) slots r
    → IfSome (result_ok r) (λ place. option_map (λ (slot : Slot). slot.order) (slice_get slots place) ≡ Some order)
searched-found order slots (Err i) range is = tt
searched-found order slots (Ok i) range is =
    ap (option_map (λ (slot : Slot). slot.order)) (slice_get-get_or slots i (hole 0) range)
    ∙ ap (λ n. Some n) (equal_is (get_or slots i (hole 0)).order order (is (hole 0)))

pub searched-none : (order : ℕ) (slots : List Slot) (r : Result ℕ ℕ) → IsBinarySearchResult (λ (y : Slot). nat_cmp y.order order) slots r
    → IfNone (result_ok r) ((from below : ℕ) → Ascends from slots below → stored_numbered order slots ≡ None)
searched-none order slots (Ok i) is = tt
searched-none order slots (Err i) is = λ from below up.
    let parts = is (λ i j d le within. index_rises (get_or slots i d).order (get_or slots j d).order order (rises from slots below up i j d le within)) in
    never order slots (λ place slot there same. ⊎_elim
    (λ before. let less = less_is (get_or slots place slot).order order (parts.0 place slot (omega arith) before) in
    let here = ap (λ (s : Slot). s.order) (get_or_from_slice_get slots place slot slot there) in
    omega (arith, less, here, same))
    (λ behind. let more = greater_is (get_or slots place slot).order order (parts.1 place slot behind (slice_get_within slots place slot there)) in
    let here = ap (λ (s : Slot). s.order) (get_or_from_slice_get slots place slot slot there) in
    omega (arith, more, here, same))
    (cases_lt place i))
