-- The first element that passes a test, in a list in which no two elements have one key.
use Rattle.std.proofs.Common.{◌≡◌, ◌<◌, ◌≤◌, ◌+◌, ℕ, zero, suc, Bool, true, false, not, ◌||◌, cond, nat_lt, if◌then◌else◌, List, [], ◌∷◌, ◌++◌, map, length, remove, slice_get, slice_set, Option, Some, None, refl, sym, ap, subst, ◌∙◌, arith}
use Rattle.std.specs.List.{find, filter, list_any, position, position_or_len}
use Rattle.std.proofs.lemmas.Bool.{ltb-true, ltb-false, lt-ltb}
use Rattle.std.proofs.lemmas.Option.{cond_some, none-some, same_Some}

-- Places -----------------------------------------------------------------------------------------------------------

-- the first element that passes stands at the place
abbrev pub FirstAt : {A : Type 0} → (A → Bool) → List A → ℕ → Type 0
FirstAt p [] i = ⊥
FirstAt p (x ∷ xs) zero = p x ≡ true
FirstAt p (x ∷ xs) (suc i) = (p x ≡ false) × FirstAt p xs i

step : {A : Type 0} (p : A → Bool) (x : A) (xs : List A) (b : Bool) → p x ≡ b → (i : ℕ) → cond (not b) (1 + position_or_len p xs) 0 ≡ i → i < suc (length xs)
    → ((j : ℕ) → position_or_len p xs ≡ j → j < length xs → FirstAt p xs j) → FirstAt p (x ∷ xs) i
step p x xs true e zero is within later = e
step p x xs true e (suc i) is within later = absurd (omega (arith, is))
step p x xs false e zero is within later = absurd (omega (arith, is))
step p x xs false e (suc i) is within later = (e, later i (omega (arith, is)) (omega (arith, within)))

stands_at : {A : Type 0} (p : A → Bool) (xs : List A) (i : ℕ) → position_or_len p xs ≡ i → i < length xs → FirstAt p xs i
stands_at p [] i is within = absurd (omega arith)
stands_at p (x ∷ xs) i is within = step p x xs (p x) refl i is within (λ j. stands_at p xs j)

pub first_at : {A : Type 0} (p : A → Bool) (xs : List A) (i : ℕ) → position p xs ≡ Some i → FirstAt p xs i
first_at p xs i is =
    let parts = cond_some (nat_lt (position_or_len p xs) (length xs)) (position_or_len p xs) i is in
    stands_at p xs i parts.1 (subst (λ n. n < length xs) parts.1 (ltb-true (position_or_len p xs) (length xs) parts.0))

none_step : {A : Type 0} (p : A → Bool) (x : A) (xs : List A) (b : Bool) → p x ≡ b → suc (length xs) ≤ cond (not b) (1 + position_or_len p xs) 0
    → (length xs ≤ position_or_len p xs → list_any p xs ≡ false) → (b || list_any p xs) ≡ false
none_step p x xs true e past later = absurd (omega (arith, past))
none_step p x xs false e past later = later (omega (arith, past))

none_at : {A : Type 0} (p : A → Bool) (xs : List A) → length xs ≤ position_or_len p xs → list_any p xs ≡ false
none_at p [] past = refl
none_at p (x ∷ xs) past = none_step p x xs (p x) refl past (none_at p xs)

cond_none : {A : Type 0} (b : Bool) (x : A) → cond b (Some x) None ≡ None → b ≡ false
cond_none true x e = absurd (none-some x (sym e))
cond_none false x e = refl

pub none_passes : {A : Type 0} (p : A → Bool) (xs : List A) → position p xs ≡ None → list_any p xs ≡ false
none_passes p xs is =
    none_at p xs (ltb-false (position_or_len p xs) (length xs) (cond_none (nat_lt (position_or_len p xs) (length xs)) (position_or_len p xs) is))

pub within_at : {A : Type 0} (p : A → Bool) (xs : List A) (i : ℕ) → FirstAt p xs i → i < length xs
within_at p [] i first = absurd first
within_at p (x ∷ xs) zero first = omega arith
within_at p (x ∷ xs) (suc i) first = omega (arith, within_at p xs i first.1)

-- Tests ------------------------------------------------------------------------------------------------------------

pub any_at : {A : Type 0} (p : A → Bool) (xs : List A) (i : ℕ) → FirstAt p xs i → list_any p xs ≡ true
any_at p [] i first = absurd first
any_at p (x ∷ xs) zero first = rw first refl
any_at p (x ∷ xs) (suc i) first = rw first.0 (any_at p xs i first.1)

pub find_at : {A : Type 0} (p : A → Bool) (xs : List A) (i : ℕ) → FirstAt p xs i → find p xs ≡ slice_get xs i
find_at p [] i first = absurd first
find_at p (x ∷ xs) zero first = rw first refl
find_at p (x ∷ xs) (suc i) first = rw first.0 (find_at p xs i first.1)

find_none_step : {A : Type 0} (b : Bool) (x : A) (p : A → Bool) (xs : List A) → (b || list_any p xs) ≡ false → (list_any p xs ≡ false → find p xs ≡ None) → cond b (Some x) (find p xs) ≡ None
find_none_step true x p xs none later = absurd (apart none)
  where
    apart : true ≡ false → ⊥
    apart e = cc
find_none_step false x p xs none later = later none

pub find_none : {A : Type 0} (p : A → Bool) (xs : List A) → list_any p xs ≡ false → find p xs ≡ None
find_none p [] none = refl
find_none p (x ∷ xs) none = find_none_step (p x) x p xs none (find_none p xs)

-- Lists without two of one key -------------------------------------------------------------------------------------

-- no later element passes the test of an earlier one
abbrev pub Apart : {A : Type 0} → (A → A → Bool) → List A → Type 0
Apart same [] = Unit {0}
Apart same (x ∷ xs) = (list_any (same x) xs ≡ false) × Apart same xs

-- the test asks for the key of each element that passes it
abbrev pub Asks : {A : Type 0} → (A → A → Bool) → (A → Bool) → Type 0
Asks {A} same p = (x y : A) → p x ≡ true → same x y ≡ p y

any_same : {A : Type 0} (p q : A → Bool) (xs : List A) → ((x : A) → p x ≡ q x) → list_any p xs ≡ list_any q xs
any_same p q [] same = refl
any_same p q (x ∷ xs) same = ap (λ b. b || list_any p xs) (same x) ∙ ap (λ b. q x || b) (any_same p q xs same)

map_none_step : {A : Type 0} (f : A → A) (x : A) (b rest : Bool) (ys xs : List A) → (b || rest) ≡ false → (rest ≡ false → ys ≡ xs) → (if b then f x else x) ∷ ys ≡ x ∷ xs
map_none_step f x true rest ys xs none later = absurd (apart none)
  where
    apart : true ≡ false → ⊥
    apart e = cc
map_none_step f x false rest ys xs none later = ap (λ zs. x ∷ zs) (later none)

pub map_none : {A : Type 0} (p : A → Bool) (f : A → A) (xs : List A) → list_any p xs ≡ false → map (λ y. if p y then f y else y) xs ≡ xs
map_none p f [] none = refl
map_none p f (x ∷ xs) none = map_none_step f x (p x) (list_any p xs) (map (λ y. if p y then f y else y) xs) xs none (map_none p f xs)

-- the first is the only one that is changed
pub map_at : {A : Type 0} (same : A → A → Bool) (p : A → Bool) (f : A → A) (xs : List A) (i : ℕ) (x : A) → Asks same p → FirstAt p xs i → Apart same xs → slice_get xs i ≡ Some x
    → map (λ y. if p y then f y else y) xs ≡ slice_set xs i (f x)
map_at same p f [] i x asks first apart there = absurd first
map_at same p f (y ∷ ys) zero x asks first apart there =
    rw first (ap (λ zs. f y ∷ zs) (map_none p f ys (sym (any_same (same y) p ys (λ z. asks y z first)) ∙ apart.0)) ∙ ap (λ z. f z ∷ ys) (same_Some y x there))
map_at same p f (y ∷ ys) (suc i) x asks first apart there =
    rw first.0 (ap (λ zs. y ∷ zs) (map_at same p f ys i x asks first.1 apart.1 there))

filter_none_step : {A : Type 0} (x : A) (b rest : Bool) (ys xs : List A) → (b || rest) ≡ false → (rest ≡ false → ys ≡ xs) → cond (not b) (x ∷ ys) ys ≡ x ∷ xs
filter_none_step x true rest ys xs none later = absurd (apart none)
  where
    apart : true ≡ false → ⊥
    apart e = cc
filter_none_step x false rest ys xs none later = ap (λ zs. x ∷ zs) (later none)

pub filter_none : {A : Type 0} (p : A → Bool) (xs : List A) → list_any p xs ≡ false → filter (λ y. not (p y)) xs ≡ xs
filter_none p [] none = refl
filter_none p (x ∷ xs) none = filter_none_step x (p x) (list_any p xs) (filter (λ y. not (p y)) xs) xs none (filter_none p xs)

-- the first is the only one that is taken away
pub filter_at : {A : Type 0} (same : A → A → Bool) (p : A → Bool) (xs : List A) (i : ℕ) → Asks same p → FirstAt p xs i → Apart same xs
    → filter (λ y. not (p y)) xs ≡ remove xs i
filter_at same p [] i asks first apart = absurd first
filter_at same p (y ∷ ys) zero asks first apart =
    rw first (filter_none p ys (sym (any_same (same y) p ys (λ z. asks y z first)) ∙ apart.0))
filter_at same p (y ∷ ys) (suc i) asks first apart = rw first.0 (ap (λ zs. y ∷ zs) (filter_at same p ys i asks first.1 apart.1))

any-set : {A : Type 0} (p : A → Bool) (xs : List A) (i : ℕ) (x new : A) → slice_get xs i ≡ Some x → p new ≡ p x → list_any p (slice_set xs i new) ≡ list_any p xs
any-set p [] i x new there e = refl
any-set p (y ∷ ys) zero x new there e = ap (λ b. b || list_any p ys) (e ∙ ap p (sym (same_Some y x there)))
any-set p (y ∷ ys) (suc i) x new there e = ap (λ b. p y || b) (any-set p ys i x new there e)

-- an element is changed and keeps its key
pub Apart-set : {A : Type 0} (same : A → A → Bool) (xs : List A) (i : ℕ) (x new : A) → slice_get xs i ≡ Some x → ((y : A) → same y new ≡ same y x) → ((y : A) → same new y ≡ same x y)
    → Apart same xs → Apart same (slice_set xs i new)
Apart-set same [] i x new there to from apart = tt
Apart-set same (y ∷ ys) zero x new there to from apart =
    (any_same (same new) (same y) ys (λ z. from z ∙ ap (λ w. same w z) (sym (same_Some y x there))) ∙ apart.0, apart.1)
Apart-set same (y ∷ ys) (suc i) x new there to from apart =
    (any-set (same y) ys i x new there (to y) ∙ apart.0, Apart-set same ys i x new there to from apart.1)

any-append : {A : Type 0} (p : A → Bool) (xs : List A) (new : A) → list_any p xs ≡ false → p new ≡ false → list_any p (xs ++ new ∷ []) ≡ false
any-append p [] new none e = rw e refl
any-append p (x ∷ xs) new none e = step_append (p x) (list_any p xs) (list_any p (xs ++ new ∷ [])) none (λ rest. any-append p xs new rest e)
  where
    step_append : (b rest more : Bool) → (b || rest) ≡ false → (rest ≡ false → more ≡ false) → (b || more) ≡ false
    step_append true rest more none later = none
    step_append false rest more none later = later none

head_false : (b rest : Bool) → (b || rest) ≡ false → (b ≡ false) × (rest ≡ false)
head_false true rest none = absurd (apart none)
  where
    apart : true ≡ false → ⊥
    apart e = cc
head_false false rest none = (refl, none)

-- an element with a new key comes behind the others
pub Apart-append : {A : Type 0} (same : A → A → Bool) (xs : List A) (new : A) → ((y : A) → same y new ≡ same new y) → list_any (same new) xs ≡ false → Apart same xs → Apart same (xs ++ new ∷ [])
Apart-append same [] new turned none apart = (refl, tt)
Apart-append same (x ∷ xs) new turned none apart =
    let parts = head_false (same new x) (list_any (same new) xs) none in
    (any-append (same x) xs new apart.0 (turned x ∙ parts.0), Apart-append same xs new turned parts.1 apart.1)

any-remove : {A : Type 0} (p : A → Bool) (xs : List A) (i : ℕ) → list_any p xs ≡ false → list_any p (remove xs i) ≡ false
any-remove p [] zero none = none
any-remove p [] (suc i) none = none
any-remove p (x ∷ xs) zero none = (head_false (p x) (list_any p xs) none).1
any-remove p (x ∷ xs) (suc i) none = let parts = head_false (p x) (list_any p xs) none in rw parts.0 (any-remove p xs i parts.1)

pub Apart-remove : {A : Type 0} (same : A → A → Bool) (xs : List A) (i : ℕ) → Apart same xs → Apart same (remove xs i)
Apart-remove same [] zero apart = tt
Apart-remove same [] (suc i) apart = tt
Apart-remove same (x ∷ xs) zero apart = apart.1
Apart-remove same (x ∷ xs) (suc i) apart = (any-remove (same x) xs i apart.0, Apart-remove same xs i apart.1)
