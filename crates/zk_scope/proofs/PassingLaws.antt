-- Where those of a list stand that pass.
use Rattle.std.proofs.Common.{◌≡◌, ℕ, zero, suc, ◌+◌, ◌<◌, ◌≤◌, Bool, true, false, List, [], ◌∷◌, ◌++◌, length, get_or, take, map, filter, cond, Option, Some, None, slice_get, refl, ap, sym, ◌∙◌, arith, append-nil, append_assoc, if◌then◌else◌}
use Rattle.std.proofs.lemmas.List.{map-append, take_more}
use Rattle.std.specs.Option.{option_and_then, option_map}
use Rattle.zk_scope.specs.Indexing.{passing}
use Rattle.zk_scope.proofs.IndexLaws.{get_of_map}

shifted : (b : Bool) (place : ℕ) → map suc (if b then place ∷ [] else []) ≡ (if b then suc place ∷ [] else [])
shifted true place = refl
shifted false place = refl

passing_push : {A : Type 0} (q : A → Bool) (items : List A) (one : A) → passing q (items ++ one ∷ []) ≡ passing q items ++ (if q one then length items ∷ [] else [])
passing_push q [] one = append-nil (if q one then 0 ∷ [] else [])
passing_push q (first ∷ others) one =
    let front : List ℕ = if q first then 0 ∷ [] else [] in
    ap (λ (x : List ℕ). front ++ map suc x) (passing_push q others one) ∙ ap (λ (x : List ℕ). front ++ x) (map-append suc (passing q others) (if q one then length others ∷ [] else [])) ∙
    sym (append_assoc front (map suc (passing q others)) (map suc (if q one then length others ∷ [] else []))) ∙
    ap (λ (x : List ℕ). (front ++ map suc (passing q others)) ++ x) (shifted (q one) (length others))

taken : {A V : Type 0} (view : A → V) (items : List A) (at : ℕ) → at < length items → length (map view (take at items)) ≡ at
taken view [] zero within = refl
taken view [] (suc at) within = absurd (omega (arith, within))
taken view (first ∷ others) zero within = refl
taken view (first ∷ others) (suc at) within = ap suc (taken view others at (omega (arith, within)))

-- where those stand that pass of one more
pub one_more_passing : {A V : Type 0} (view : A → V) (q : V → Bool) (items : List A) (at : ℕ) (one : A) → at < length items → one ≡ get_or items at one →
    passing q (map view (take at items)) ++ (if q (view one) then at ∷ [] else []) ≡ passing q (map view (take (at + 1) items))
one_more_passing view q items at one within is =
    let e : take (at + 1) items ≡ take at items ++ one ∷ [] = take_more items at one within ∙ ap (λ y. take at items ++ y ∷ []) (sym is) in
    sym (ap (λ ys. passing q (map view ys)) e ∙ ap (passing q) (map-append view (take at items) (one ∷ [])) ∙ passing_push q (map view (take at items)) (view one) ∙
    ap (λ (n : ℕ). passing q (map view (take at items)) ++ (if q (view one) then n ∷ [] else [])) (taken view items at within))

some_first : {V : Type 0} (b : Bool) (one : V) (all : List V) → b ≡ true → 1 ≤ length (cond b (one ∷ all) all)
some_first true one all passes = omega arith
some_first false one all passes = cc

by_first : {V : Type 0} (b : Bool) (one : V) (some all : List V) → length some + 1 ≤ length all → length (cond b (one ∷ some) some) + 1 ≤ length (cond b (one ∷ all) all)
by_first true one some all more = omega (arith, more)
by_first false one some all more = more

-- those that pass before one that passes are fewer than all that pass
pub fewer_before : {A V : Type 0} (view : A → V) (q : V → Bool) (items : List A) (at : ℕ) (one : A) → at < length items → one ≡ get_or items at one → q (view one) ≡ true →
    length (filter q (map view (take at items))) + 1 ≤ length (filter q (map view items))
fewer_before view q [] at one within is passes = absurd (omega (arith, within))
fewer_before view q (first ∷ others) zero one within is passes = some_first (q (view first)) (view first) (filter q (map view others)) (ap (λ x. q (view x)) (sym is) ∙ passes)
fewer_before view q (first ∷ others) (suc at) one within is passes =
    by_first (q (view first)) (view first) (filter q (map view (take at others))) (filter q (map view others)) (fewer_before view q others at one (omega (arith, within)) is passes)

later_by : {A : Type 0} (one : A) (others : List A) (found : Option ℕ) → option_and_then (slice_get (one ∷ others)) (option_map suc found) ≡ option_and_then (slice_get others) found
later_by one others None = refl
later_by one others (Some place) = refl

later : {A : Type 0} (one : A) (others : List A) (places : List ℕ) (at : ℕ) →
    option_and_then (slice_get (one ∷ others)) (slice_get (map suc places) at) ≡ option_and_then (slice_get others) (slice_get places at)
later one others places at = ap (option_and_then (slice_get (one ∷ others))) (get_of_map suc places at) ∙ later_by one others (slice_get places at)

nth_by : {A : Type 0} (q : A → Bool) (one : A) (others : List A) (at : ℕ) (b : Bool) → q one ≡ b →
    ((n : ℕ) → slice_get (filter q others) n ≡ option_and_then (slice_get others) (slice_get (passing q others) n)) →
    slice_get (filter q (one ∷ others)) at ≡ option_and_then (slice_get (one ∷ others)) (slice_get (passing q (one ∷ others)) at)
nth_by q one others zero true e rest = rw e refl
nth_by q one others (suc at) true e rest = rw e (rest at ∙ sym (later one others (passing q others) at))
nth_by q one others at false e rest = rw e (rest at ∙ sym (later one others (passing q others) at))

-- the one with a number among those that pass is the one in its place
pub nth_passing : {A : Type 0} (q : A → Bool) (items : List A) (at : ℕ) → slice_get (filter q items) at ≡ option_and_then (slice_get items) (slice_get (passing q items) at)
nth_passing q [] zero = refl
nth_passing q [] (suc at) = refl
nth_passing q (one ∷ others) at = nth_by q one others at (q one) refl (nth_passing q others)
