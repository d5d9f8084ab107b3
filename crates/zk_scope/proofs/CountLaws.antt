-- What leads to a target at all leads to it within as many steps as there are places: each step but the last ones finds
-- one place more.
use Rattle.std.proofs.Common.{◌≡◌, ℕ, zero, suc, ◌+◌, ◌-◌, ◌<◌, ◌≤◌, ◌⊎◌, Bool, true, false, ◌||◌, List, [], ◌∷◌, if◌then◌else◌, inl, inr, refl, ap, sym, ◌∙◌, subst, arith}
use Rattle.std.specs.List.{list_any}
use Rattle.zk_scope.proofs.SearchLaws.{Leading, any_led_up, any_more, led_more, mem, step_led, target_led}

abbrev one_of : Bool → ℕ
one_of true = 1
one_of false = 0

-- how many of so many places pass
abbrev among : (ℕ → Bool) → ℕ → ℕ
among p zero = 0
among p (suc most) = one_of (p most) + among p most

at_most : (p : ℕ → Bool) (most : ℕ) → among p most ≤ most
at_most p zero = omega arith
at_most p (suc most) = by_first (p most) (at_most p most)
  where
    by_first : (b : Bool) → among p most ≤ most → one_of b + among p most ≤ suc most
    by_first true h = omega (arith, h)
    by_first false h = omega (arith, h)

-- two counts of which one has all that the other has
abbrev Same : (ℕ → Bool) → (ℕ → Bool) → ℕ → Type 0
Same p q most = (w : ℕ) → w < most → q w ≡ true → p w ≡ true

more_or_same : (p q : ℕ → Bool) → ((w : ℕ) → p w ≡ true → q w ≡ true) → (most : ℕ) →
    ((among p most ≡ among q most) × Same p q most) ⊎ (among p most < among q most)
more_or_same p q more zero = inl (refl, λ w h e. absurd (omega (arith, h)))
more_or_same p q more (suc most) = by_first (p most) (q most) refl refl (more_or_same p q more most)
  where
    below : (a b : ℕ) → a < suc b → (a < b) ⊎ (a ≡ b)
    below a b h = grind arith

    by_first : (b c : Bool) → p most ≡ b → q most ≡ c → ((among p most ≡ among q most) × Same p q most) ⊎ (among p most < among q most) →
        ((one_of (p most) + among p most ≡ one_of (q most) + among q most) × Same p q (suc most)) ⊎ (one_of (p most) + among p most < one_of (q most) + among q most)
    by_first true false e k rest = let none : false ≡ true = sym k ∙ more most e in cc
    by_first false true e k (inl rest) = let none : one_of (p most) ≡ 0 = ap one_of e in let one : one_of (q most) ≡ 1 = ap one_of k in inr (omega (arith, none, one, rest.0))
    by_first false true e k (inr rest) = let none : one_of (p most) ≡ 0 = ap one_of e in let one : one_of (q most) ≡ 1 = ap one_of k in inr (omega (arith, none, one, rest))
    by_first true true e k (inl rest) = inl (
      ap (λ (x : Bool). one_of x + among p most) (e ∙ sym k) ∙ ap (λ (n : ℕ). one_of (q most) + n) rest.0,
      λ w h here. elim (below w most h) [ inl before ↦ rest.1 w before here | inr last ↦ ap p last ∙ e ],
    )
    by_first false false e k (inl rest) = inl (
      ap (λ (x : Bool). one_of x + among p most) (e ∙ sym k) ∙ ap (λ (n : ℕ). one_of (q most) + n) rest.0,
      λ w h here. elim (below w most h) [ inl before ↦ rest.1 w before here | inr last ↦ let none : false ≡ true = sym k ∙ ap q (sym last) ∙ here in cc ],
    )
    by_first true true e k (inr rest) = let equal : one_of (p most) ≡ one_of (q most) = ap one_of (e ∙ sym k) in inr (omega (arith, equal, rest))
    by_first false false e k (inr rest) = let equal : one_of (p most) ≡ one_of (q most) = ap one_of (e ∙ sym k) in inr (omega (arith, equal, rest))

module _ (led : ℕ → ℕ → Bool) (is_target : ℕ → Bool) (steps : ℕ → List ℕ) (laws : Leading led is_target steps) where
  -- a step more leads to no more places
  abbrev IsStill : ℕ → Type 0
  IsStill m = (w : ℕ) → led (suc m) w ≡ true → led m w ≡ true

  or_cases : (a b : Bool) → (a || b) ≡ true → (a ≡ true) ⊎ (b ≡ true)
  or_cases true b h = inl refl
  or_cases false b h = inr h

  still : (m : ℕ) → IsStill m → (k w : ℕ) → led (k + m) w ≡ true → led m w ≡ true
  still m is zero w h = subst (λ (n : ℕ). led n w ≡ true) (omega arith) h
  still m is (suc k) w h = elim (or_cases (is_target w) (list_any (led (k + m)) (steps w)) (sym (laws.by_step (k + m) w) ∙ subst (λ (n : ℕ). led n w ≡ true) (omega arith) h)) [
    | inl here ↦ target_led led is_target steps laws m w here
    | inr later ↦ is w (laws.by_step m w ∙ later_true (is_target w) (list_any (led m) (steps w)) (any_more (led (k + m)) (led m) (still m is k) (steps w) later))
  ]
    where
      later_true : (a b : Bool) → b ≡ true → (a || b) ≡ true
      later_true true b h = refl
      later_true false b h = h

  module _ (most : ℕ) (far : (w m : ℕ) → most ≤ w → led m w ≡ false) where
    still_of : (m : ℕ) → Same (led m) (led (suc m)) most → IsStill m
    still_of m same w h = by_place (cases w most)
      where
        cases : (a b : ℕ) → (a < b) ⊎ (b ≤ a)
        cases a b = grind arith

        by_place : (w < most) ⊎ (most ≤ w) → led m w ≡ true
        by_place (inl before) = same w before h
        by_place (inr past) = let none : false ≡ true = sym (far w (suc m) past) ∙ h in cc

    grows : (m : ℕ) → ((j : ℕ) × (j < m) × IsStill j) ⊎ (m ≤ among (led m) most)
    grows zero = inr (omega arith)
    grows (suc m) = by_before (grows m) (more_or_same (led m) (led (suc m)) (led_more led is_target steps laws m) most)
      where
        by_before : ((j : ℕ) × (j < m) × IsStill j) ⊎ (m ≤ among (led m) most) → ((among (led m) most ≡ among (led (suc m)) most) × Same (led m) (led (suc m)) most) ⊎ (among (led m) most < among (led (suc m)) most) →
            ((j : ℕ) × (j < suc m) × IsStill j) ⊎ (suc m ≤ among (led (suc m)) most)
        by_before (inl one) other = inl (one.0, omega (arith, one.1), one.2)
        by_before (inr count) (inl same) = inl (m, omega arith, still_of m same.1)
        by_before (inr count) (inr more) = inr (omega (arith, count, more))

    led_up : (m k w : ℕ) → led m w ≡ true → led (k + m) w ≡ true
    led_up m zero w h = subst (λ (n : ℕ). led n w ≡ true) (omega arith) h
    led_up m (suc k) w h = subst (λ (n : ℕ). led n w ≡ true) (omega arith) (led_more led is_target steps laws (k + m) w (led_up m k w h))

    -- no more steps are needed than there are places
    pub soon : (m w : ℕ) → led m w ≡ true → led most w ≡ true
    soon m w h = by_growth (grows (suc most))
      where
        by_growth : ((j : ℕ) × (j < suc most) × IsStill j) ⊎ (suc most ≤ among (led (suc most)) most) → led most w ≡ true
        by_growth (inr count) = absurd (omega (arith, count, at_most (led (suc most)) most))
        by_growth (inl one) =
            let there : led (m + one.0) w ≡ true = subst (λ (n : ℕ). led n w ≡ true) (omega arith) (led_up m one.0 w h) in
            let here : led one.0 w ≡ true = still one.0 one.2 m w there in
            subst (λ (n : ℕ). led n w ≡ true) (omega (arith, one.1)) (led_up one.0 (most - one.0) w here)
