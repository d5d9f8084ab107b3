-- What one more entry changes of what was told, as long as all counts.
use Rattle.std.proofs.Common.{◌≡◌, ℕ, zero, suc, ◌+◌, ◌<◌, max, Bool, true, false, ◌||◌, List, [], ◌∷◌, ◌++◌, map, fold, Option, None, Some, refl, sym, ap, ◌∙◌, arith, append_assoc, append-nil}
use Rattle.std.specs.Prelude.{unwrap_or}
use Rattle.std.specs.List.{slice_get, filter_map, flat_map, range_with_len, list_any, cons_option}
use Rattle.std.specs.Option.{option_or}
use Rattle.std.proofs.lemmas.List.{map-append}
use Rattle.std.proofs.lemmas.List.Elements.{filter_map-append}
use Rattle.std.proofs.lemmas.List.Folds.{list_any-append}
use Rattle.std.proofs.lemmas.List.Sums.{fold-append}
use Rattle.std.proofs.lemmas.Grind.{flat_map-append}
use Rattle.zk_reasm.specs.Direction.{Step, steps_behind, steps, reach_then, reach, byte_put, byte_at, front_then, front}
use Rattle.zk_reasm.specs.Told.{Told, greatest, payload_places, fin_named, acknowledged, payload_end, fin_place, acked}

-- the entry behind what was told
abbrev pub step_of : List Told → Told → Step
step_of told entry = record { before = told; entry = entry }

steps_behind-append : (before told : List Told) (entry : Told) → steps_behind before (told ++ entry ∷ []) ≡ steps_behind before told ++ step_of (before ++ told) entry ∷ []
steps_behind-append before [] entry = ap (λ xs. step_of xs entry ∷ []) (sym (append-nil before))
steps_behind-append before (first ∷ told) entry =
    ap (λ xs. step_of before first ∷ xs)
    (steps_behind-append (before ++ first ∷ []) told entry
    ∙ ap (λ xs. steps_behind (before ++ first ∷ []) told ++ step_of xs entry ∷ []) (append_assoc before (first ∷ []) told))

steps-append : (told : List Told) (entry : Told) → steps (told ++ entry ∷ []) ≡ steps told ++ step_of told entry ∷ []
unfolding steps
steps-append told entry = steps_behind-append [] told entry

-- the greatest of some numbers and one more
pub greatest-append : (xs : List ℕ) (x : ℕ) → greatest (xs ++ x ∷ []) ≡ max (greatest xs) x
greatest-append xs x = fold-append max 0 xs (x ∷ [])

pub reach-append : (base : ℕ) (told : List Told) (entry : Told) → reach base (told ++ entry ∷ []) ≡ max (reach base told) (reach_then base (step_of told entry))
unfolding reach
reach-append base told entry =
    ap (λ xs. greatest (map (reach_then base) xs)) (steps-append told entry)
    ∙ ap greatest (map-append (reach_then base) (steps told) (step_of told entry ∷ []))
    ∙ greatest-append (map (reach_then base) (steps told)) (reach_then base (step_of told entry))

pub front-append : (base : ℕ) (told : List Told) (entry : Told) → front base (told ++ entry ∷ []) ≡ max (front base told) (front_then base (step_of told entry))
unfolding front
front-append base told entry =
    ap (λ xs. greatest (map (front_then base) xs)) (steps-append told entry)
    ∙ ap greatest (map-append (front_then base) (steps told) (step_of told entry ∷ []))
    ∙ greatest-append (map (front_then base) (steps told)) (front_then base (step_of told entry))

first_behind : (o : Option ℕ) (xs ys : List ℕ) (p : Option ℕ) → slice_get xs 0 ≡ option_or (slice_get ys 0) p
    → slice_get (cons_option o xs) 0 ≡ option_or (slice_get (cons_option o ys) 0) p
first_behind None xs ys p rest = rest
first_behind (Some z) xs ys p rest = refl

-- the first of what some items give, and then of one more
first-append : {X : Type 0} (h : X → Option ℕ) (xs : List X) (x : X) → slice_get (filter_map h (xs ++ x ∷ [])) 0 ≡ option_or (slice_get (filter_map h xs) 0) (h x)
first-append h [] x = one (h x)
  where
    one : (o : Option ℕ) → slice_get (cons_option o []) 0 ≡ o
    one None = refl
    one (Some y) = refl
first-append h (y ∷ xs) x = first_behind (h y) (filter_map h (xs ++ x ∷ [])) (filter_map h xs) (h x) (first-append h xs x)

pub byte_at-append : (base : ℕ) (told : List Told) (entry : Told) (at : ℕ)
    → byte_at base (told ++ entry ∷ []) at ≡ option_or (byte_at base told at) (byte_put base (step_of told entry) at)
unfolding byte_at
byte_at-append base told entry at =
    ap (λ xs. slice_get (filter_map (λ step. byte_put base step at) xs) 0) (steps-append told entry)
    ∙ first-append (λ step. byte_put base step at) (steps told) (step_of told entry)

pub fin_place-append : (base : ℕ) (told : List Told) (entry : Told) → fin_place base (told ++ entry ∷ []) ≡ option_or (fin_place base told) (fin_named base entry)
unfolding fin_place
fin_place-append base told entry = first-append (fin_named base) told entry

pub acked-append : (base : ℕ) (told : List Told) (entry : Told) → acked base (told ++ entry ∷ []) ≡ max (acked base told) (unwrap_or (acknowledged base entry) 0)
unfolding acked
acked-append base told entry =
    ap greatest (filter_map-append (acknowledged base) told (entry ∷ []))
    ∙ last (acknowledged base entry)
  where
    last : (o : Option ℕ) → greatest (filter_map (acknowledged base) told ++ cons_option o []) ≡ max (greatest (filter_map (acknowledged base) told)) (unwrap_or o 0)
    last None = ap greatest (append-nil (filter_map (acknowledged base) told)) ∙ (let e : greatest (filter_map (acknowledged base) told) ≡ max (greatest (filter_map (acknowledged base) told)) 0 = omega arith in e)
    last (Some x) = greatest-append (filter_map (acknowledged base) told) x

-- the greatest of numbers on and on
pub fold_max : (n : ℕ) (xs : List ℕ) → fold max n xs ≡ max n (greatest xs)
fold_max n [] = omega arith
fold_max n (x ∷ xs) = fold_max (max n x) xs ∙ (let e : max (max n x) (greatest xs) ≡ max n (max (max 0 x) (greatest xs)) = omega arith in e) ∙ ap (max n) (sym (fold_max (max 0 x) xs))

pub payload_end-append : (base : ℕ) (told : List Told) (entry : Told)
    → payload_end base (told ++ entry ∷ []) ≡ max (payload_end base told) (greatest (map (λ at. at + 1) (payload_places base entry)))
unfolding payload_end
payload_end-append base told entry =
    ap (λ xs. greatest (map (λ at. at + 1) xs)) (flat_map-append (payload_places base) told (entry ∷ []))
    ∙ ap greatest (map-append (λ at. at + 1) (flat_map (payload_places base) told) (payload_places base entry ++ []))
    ∙ fold-append max 0 (map (λ at. at + 1) (flat_map (payload_places base) told)) (map (λ at. at + 1) (payload_places base entry ++ []))
    ∙ fold_max (payload_end base told) (map (λ at. at + 1) (payload_places base entry ++ []))
    ∙ ap (λ xs. max (payload_end base told) (greatest (map (λ at. at + 1) xs))) (append-nil (payload_places base entry))

-- the end of places that stand one behind another
pub greatest-range : (a n : ℕ) → greatest (map (λ at. at + 1) (range_with_len a (suc n))) ≡ a + suc n
greatest-range a zero = omega arith
greatest-range a (suc n) =
    fold_max (max 0 (a + 1)) (map (λ at. at + 1) (range_with_len (a + 1) (suc n)))
    ∙ ap (max (max 0 (a + 1))) (greatest-range (a + 1) n)
    ∙ (let e : max (max 0 (a + 1)) (a + 1 + suc n) ≡ a + suc (suc n) = omega arith in e)

pub list_any-one : {X : Type 0} (test : X → Bool) (xs : List X) (x : X) → list_any test (xs ++ x ∷ []) ≡ (list_any test xs || test x)
list_any-one test xs x = list_any-append test xs (x ∷ []) ∙ ap (λ b. list_any test xs || b) (or_false (test x))
  where
    or_false : (b : Bool) → (b || false) ≡ b
    or_false true = refl
    or_false false = refl

pub greatest-range-some : (a n : ℕ) → 0 < n → greatest (map (λ at. at + 1) (range_with_len a n)) ≡ a + n
greatest-range-some a zero some = absurd (omega arith)
greatest-range-some a (suc n) some = greatest-range a n
