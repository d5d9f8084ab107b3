-- The search for an object's number among tables in the order of their numbers.
use Rattle.std.proofs.Common.{◌≡◌, ◌==◌, ℕ, zero, suc, ◌<◌, ◌≤◌, Bool, true, false, cond, List, [], ◌∷◌, ◌++◌, length, get_or, slice_get, find, Option, Some, None, Result, Ok, Err, refl, sym, ap, subst, ◌∙◌, arith, ⊎_elim}
use Rattle.std.specs.Prelude.{IfSome, IfNone, IsSomeAnd, ◌+◌}
use Rattle.std.specs.Option.{option_map}
use Rattle.std.specs.Result.{result_ok}
use Rattle.std.specs.List.Sorted.{IsBinarySearchResult, IsSearchInRange}
use Rattle.std.specs.Ordering.{nat_cmp, ordering_index}
use Rattle.std.specs.declared.cmp.Ordering.TheVariants.{Less, Equal, Greater}
use Rattle.std.proofs.lemmas.Bool.{cases_lt}
use Rattle.std.proofs.lemmas.Bool.Decides.{Decides-eqb, nat_tests}
use Rattle.std.proofs.lemmas.Option.{slice_get-get_or, slice_get_within, get_or_from_slice_get}
use Rattle.zk_machine.specs.Defaulted.{Rises}
use Rattle.zk_machine.specs.declared.table_defaults.TableDefault.{TableDefault}

pub equal_is : (a b : ℕ) → nat_cmp a b ≡ Equal → a ≡ b
equal_is a b e = grind (arith, nat_tests)

less_is : (a b : ℕ) → nat_cmp a b ≡ Less → a < b
less_is a b e = grind (arith, nat_tests)

greater_is : (a b : ℕ) → nat_cmp a b ≡ Greater → b < a
greater_is a b e = grind (arith, nat_tests)

index_rises : (a b n : ℕ) → a ≤ b → ordering_index (nat_cmp a n) ≤ ordering_index (nat_cmp b n)
index_rises a b n le = grind (arith, nat_tests)

eqb-refl : (n : ℕ) → (n == n) ≡ true
eqb-refl n = (Decides-eqb n n).1 refl

eqb-apart : (a b : ℕ) → (a ≡ b → ⊥) → (a == b) ≡ false
eqb-apart a b apart = by (a == b) refl
  where
    by : (t : Bool) → (a == b) ≡ t → (a == b) ≡ false
    by true e = absurd (apart ((Decides-eqb a b).0 e))
    by false e = e

-- the number in a place
rises-at : (from : ℕ) (all : List TableDefault) (above place : ℕ) (one : TableDefault) → Rises from all above → slice_get all place ≡ Some one → from ≤ one.object.0
rises-at from [] above place one up is = cc
rises-at from (first ∷ others) above zero one up is = subst (λ (it : TableDefault). from ≤ it.object.0) (same first one is) up.0
  where
    same : (x y : TableDefault) → Some x ≡ Some y → x ≡ y
    same x y e = cc
rises-at from (first ∷ others) above (suc place) one up is =
    omega (arith, up.0, rises-at (suc first.object.0) others above place one up.1 is)

-- the numbers rise from place to place
rises : (from : ℕ) (all : List TableDefault) (above : ℕ) → Rises from all above → (i j : ℕ) (d : TableDefault) → i ≤ j → j < length all → (get_or all i d).object.0 ≤ (get_or all j d).object.0
rises from [] above up i j d le within = absurd (no_less within)
  where
    no_less : {n : ℕ} → n < 0 → ⊥
    no_less lt = omega (arith, lt)
rises from (one ∷ others) above up zero zero d le within = omega arith
rises from (one ∷ others) above up zero (suc j) d le within =
    let at = rises-at (suc one.object.0) others above j (get_or others j d) up.1 (slice_get-get_or others j d (omega (arith, within))) in
    omega (arith, at)
rises from (one ∷ others) above up (suc i) zero d le within = absurd (no_less le)
  where
    no_less : {n : ℕ} → suc n ≤ 0 → ⊥
    no_less lt = omega (arith, lt)
rises from (one ∷ others) above up (suc i) (suc j) d le within = rises (suc one.object.0) others above up.1 i j d (omega (arith, le)) (omega (arith, within))

-- another one behind them
pub rises-push : (from : ℕ) (all : List TableDefault) (above : ℕ) (new : TableDefault) → Rises from all above → above ≤ new.object.0 → Rises from (all ++ new ∷ []) (suc new.object.0)
rises-push from [] above new up over = (omega (arith, up, over), omega arith)
rises-push from (one ∷ others) above new up over = (up.0, rises-push (suc one.object.0) others above new up.1 over)

pub rises-with : (above next : Option ℕ) (all : List TableDefault) (new : TableDefault) → ((n : ℕ) → above ≡ Some n → Rises 0 all n)
    → IfSome next (λ n. n ≡ new.object.0 + 1) → IfSome next (λ n. IsSomeAnd above (λ a. a ≤ new.object.0)) → (n : ℕ) → next ≡ Some n → Rises 0 (all ++ new ∷ []) n
rises-with above None all new up is over n e = cc
rises-with None (Some next) all new up is over n e = absurd over
rises-with (Some above) (Some next) all new up is over n e =
    subst (λ m. Rises 0 (all ++ new ∷ []) m) (number_is is e) (rises-push 0 all above new (up above refl) over)
  where
    inside : (a b : ℕ) → Some a ≡ Some b → a ≡ b
    inside a b e = cc

    number_is : next ≡ new.object.0 + 1 → Some next ≡ Some n → suc new.object.0 ≡ n
    number_is is e = let same = inside next n e in omega (arith, is, same)

-- no other has the number of the one in a place
pub first-at : (from : ℕ) (all : List TableDefault) (above place : ℕ) (one : TableDefault) → Rises from all above → slice_get all place ≡ Some one
    → find (λ (it : TableDefault). it.object.0 == one.object.0) all ≡ Some one
first-at from [] above place one up is = cc
first-at from (first ∷ others) above zero one up is = ap (λ t. cond t (Some first) (find (λ (it : TableDefault). it.object.0 == one.object.0) others)) (same first one is) ∙ is
  where
    same : (x y : TableDefault) → Some x ≡ Some y → (x.object.0 == y.object.0) ≡ true
    same x y e = subst (λ (it : TableDefault). (x.object.0 == it.object.0) ≡ true) (inside x y e) (eqb-refl x.object.0)
      where
        inside : (x y : TableDefault) → Some x ≡ Some y → x ≡ y
        inside x y e = cc
first-at from (first ∷ others) above (suc place) one up is =
    let over = rises-at (suc first.object.0) others above place one up.1 is in
    ap (λ t. cond t (Some first) (find (λ (it : TableDefault). it.object.0 == one.object.0) others)) (eqb-apart first.object.0 one.object.0 (λ e. omega (arith, e, over)))
    ∙ first-at (suc first.object.0) others above place one up.1 is

-- no one has a number that is in no place
never : (number : ℕ) (all : List TableDefault) → ((place : ℕ) (one : TableDefault) → slice_get all place ≡ Some one → one.object.0 ≡ number → ⊥) → find (λ (one : TableDefault). one.object.0 == number) all ≡ None
never number [] absent = refl
never number (first ∷ others) absent =
    ap (λ t. cond t (Some first) (find (λ (one : TableDefault). one.object.0 == number) others)) (eqb-apart first.object.0 number (λ e. absent 0 first refl e))
    ∙ never number others (λ place other there is. absent (suc place) other there is)

pub searched-found : (number : ℕ) (all : List TableDefault) (r : Result ℕ ℕ) → IsSearchInRange r (length all) → IsBinarySearchResult (λ (it : TableDefault). nat_cmp it.object.0 number) all r
    → IfSome (result_ok r) (λ place. option_map (λ (one : TableDefault). one.object.0) (slice_get all place) ≡ Some number)
searched-found number all (Err i) range is = tt
searched-found number [] (Ok i) range is = absurd (no_less range)
  where
    no_less : {n : ℕ} → n < 0 → ⊥
    no_less lt = omega (arith, lt)
searched-found number (first ∷ others) (Ok i) range is =
    ap (option_map (λ (one : TableDefault). one.object.0)) (slice_get-get_or (first ∷ others) i first range)
    ∙ ap (λ n. Some n) (equal_is (get_or (first ∷ others) i first).object.0 number (is first))

pub searched-none : (number : ℕ) (all : List TableDefault) (r : Result ℕ ℕ) → IsBinarySearchResult (λ (it : TableDefault). nat_cmp it.object.0 number) all r
    → IfNone (result_ok r) ((from above : ℕ) → Rises from all above → find (λ (one : TableDefault). one.object.0 == number) all ≡ None)
searched-none number all (Ok i) is = tt
searched-none number all (Err i) is = λ from above up.
    let parts = is (λ i j d le within. index_rises (get_or all i d).object.0 (get_or all j d).object.0 number (rises from all above up i j d le within)) in
    never number all (λ place one there same. ⊎_elim
    (λ before. let less = less_is (get_or all place one).object.0 number (parts.0 place one (omega arith) before) in
    let here = ap (λ (it : TableDefault). it.object.0) (get_or_from_slice_get all place one one there) in
    omega (arith, less, here, same))
    (λ behind. let more = greater_is (get_or all place one).object.0 number (parts.1 place one behind (slice_get_within all place one there)) in
    let here = ap (λ (it : TableDefault). it.object.0) (get_or_from_slice_get all place one one there) in
    omega (arith, more, here, same))
    (cases_lt place i))

-- the one in the place that was found
pub halved-is : (number : ℕ) (all : List TableDefault) (above place : ℕ) → Rises 0 all above → option_map (λ (one : TableDefault). one.object.0) (slice_get all place) ≡ Some number
    → slice_get all place ≡ find (λ (one : TableDefault). one.object.0 == number) all
halved-is number all above place up is = by (slice_get all place) refl is
  where
    number_is : (a b : ℕ) → Some a ≡ Some b → a ≡ b
    number_is a b e = cc

    by : (there : Option TableDefault) → slice_get all place ≡ there → option_map (λ (one : TableDefault). one.object.0) there ≡ Some number
        → slice_get all place ≡ find (λ (one : TableDefault). one.object.0 == number) all
    by None e is = cc
    by (Some one) e is =
        e ∙ (sym (first-at 0 all above place one up e) ∙ ap (λ n. find (λ (it : TableDefault). it.object.0 == n) all) (number_is one.object.0 number is))
