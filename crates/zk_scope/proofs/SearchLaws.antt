-- A search over a graph, whose found places are kept in the order in which they were found.
use Rattle.std.proofs.Common.{◌≡◌, ℕ, zero, suc, ◌+◌, ◌-◌, ◌<◌, ◌≤◌, ◌⊎◌, Bool, true, false, ◌||◌, List, [], ◌∷◌, ◌++◌, length, get_or, fold, nat_eq, if◌then◌else◌, inl, inr, refl, ap, sym, ◌∙◌, subst, arith, length-append}
use Rattle.std.proofs.lemmas.Bool.{eq-eqb}
use Rattle.std.proofs.lemmas.Bool.Decides.{Decides-eqb}
use Rattle.std.proofs.lemmas.List.{get_or_append_left}
use Rattle.std.proofs.lemmas.List.Folds.{list_any-append}
use Rattle.std.specs.List.{list_any}
use Rattle.indexmap.specs.IndexSet.{insert_key}

-- whether a place is among some
abbrev pub mem : ℕ → List ℕ → Bool
mem w xs = list_any (nat_eq w) xs

or_left : (a b : Bool) → a ≡ true → (a || b) ≡ true
or_left a b h = rw h refl

or_right : (a b : Bool) → b ≡ true → (a || b) ≡ true
or_right true b h = refl
or_right false b h = h

or_cases : (a b : Bool) → (a || b) ≡ true → (a ≡ true) ⊎ (b ≡ true)
or_cases true b h = inl refl
or_cases false b h = inr h

or_none : (a b : Bool) → a ≡ false → b ≡ false → (a || b) ≡ false
or_none a b p q = rw p q

same : (a b : ℕ) → nat_eq a b ≡ true → a ≡ b
same a b = (Decides-eqb a b).0

-- Lists to which what they lack is added -----------------------------------------------------------------------------

kept_by : (ks : List ℕ) (k w : ℕ) (b : Bool) → mem w ks ≡ true → mem w (if b then ks else ks ++ k ∷ []) ≡ true
kept_by ks k w true h = h
kept_by ks k w false h = list_any-append (nat_eq w) ks (k ∷ []) ∙ or_left _ _ h

insert_kept : (ks : List ℕ) (k w : ℕ) → mem w ks ≡ true → mem w (insert_key nat_eq ks k) ≡ true
insert_kept ks k w h = kept_by ks k w (mem k ks) h

new_by : (ks : List ℕ) (k : ℕ) (b : Bool) → mem k ks ≡ b → mem k (if b then ks else ks ++ k ∷ []) ≡ true
new_by ks k true h = h
new_by ks k false h = list_any-append (nat_eq k) ks (k ∷ []) ∙ or_right _ _ (or_left _ false (eq-eqb k k refl))

insert_new : (ks : List ℕ) (k : ℕ) → mem k (insert_key nat_eq ks k) ≡ true
insert_new ks k = new_by ks k (mem k ks) refl

alone : (k w : ℕ) → (nat_eq w k || false) ≡ true → w ≡ k
alone k w h = elim (or_cases (nat_eq w k) false h) [ inl e ↦ same w k e | inr e ↦ absurd_false e ]
  where
    absurd_false : false ≡ true → w ≡ k
    absurd_false e = cc

from_by : (ks : List ℕ) (k w : ℕ) (b : Bool) → mem w (if b then ks else ks ++ k ∷ []) ≡ true → (mem w ks ≡ true) ⊎ (w ≡ k)
from_by ks k w true h = inl h
from_by ks k w false h = elim (or_cases (mem w ks) (nat_eq w k || false) (sym (list_any-append (nat_eq w) ks (k ∷ [])) ∙ h)) [ inl e ↦ inl e | inr e ↦ inr (alone k w e) ]

insert_from : (ks : List ℕ) (k w : ℕ) → mem w (insert_key nat_eq ks k) ≡ true → (mem w ks ≡ true) ⊎ (w ≡ k)
insert_from ks k w h = from_by ks k w (mem k ks) h

pub fold_kept : (ks xs : List ℕ) (w : ℕ) → mem w ks ≡ true → mem w (fold (insert_key nat_eq) ks xs) ≡ true
fold_kept ks [] w h = h
fold_kept ks (x ∷ xs) w h = fold_kept (insert_key nat_eq ks x) xs w (insert_kept ks x w h)

pub fold_new : (ks xs : List ℕ) (w : ℕ) → mem w xs ≡ true → mem w (fold (insert_key nat_eq) ks xs) ≡ true
fold_new ks [] w h = cc
fold_new ks (x ∷ xs) w h = elim (or_cases (nat_eq w x) (mem w xs) h) [
  | inl e ↦ fold_kept (insert_key nat_eq ks x) xs w (subst (λ (v : ℕ). mem v (insert_key nat_eq ks x) ≡ true) (sym (same w x e)) (insert_new ks x))
  | inr e ↦ fold_new (insert_key nat_eq ks x) xs w e
]

pub fold_from : (ks xs : List ℕ) (w : ℕ) → mem w (fold (insert_key nat_eq) ks xs) ≡ true → (mem w ks ≡ true) ⊎ (mem w xs ≡ true)
fold_from ks [] w h = inl h
fold_from ks (x ∷ xs) w h = elim (fold_from (insert_key nat_eq ks x) xs w h) [
  | inl e ↦ elim (insert_from ks x w e) [ inl m ↦ inl m | inr m ↦ inr (or_left _ _ (eq-eqb w x m)) ]
  | inr e ↦ inr (or_right _ _ e)
]

longer_by : (ks : List ℕ) (k : ℕ) (b : Bool) → length ks ≤ length (if b then ks else ks ++ k ∷ [])
longer_by ks k true = omega arith
longer_by ks k false = rw (length-append ks (k ∷ [])) (omega arith)

front_by : (ks : List ℕ) (k : ℕ) (i : ℕ) (b : Bool) → i < length ks → get_or (if b then ks else ks ++ k ∷ []) i 0 ≡ get_or ks i 0
front_by ks k i true h = refl
front_by ks k i false h = get_or_append_left ks (k ∷ []) 0 i h

pub fold_front : (ks xs : List ℕ) (i : ℕ) → i < length ks → get_or (fold (insert_key nat_eq) ks xs) i 0 ≡ get_or ks i 0
fold_front ks [] i h = refl
fold_front ks (x ∷ xs) i h =
    let more : length ks ≤ length (insert_key nat_eq ks x) = longer_by ks x (mem x ks) in
    fold_front (insert_key nat_eq ks x) xs i (omega arith) ∙ front_by ks x i (mem x ks) h

-- Tests of lists ------------------------------------------------------------------------------------------------------

any_mem : (p : ℕ → Bool) (xs : List ℕ) (w : ℕ) → mem w xs ≡ true → p w ≡ true → list_any p xs ≡ true
any_mem p [] w h e = cc
any_mem p (x ∷ xs) w h e = elim (or_cases (nat_eq w x) (mem w xs) h) [
  | inl m ↦ or_left _ _ (ap p (sym (same w x m)) ∙ e)
  | inr m ↦ or_right _ _ (any_mem p xs w m e)
]

pub any_more : (p q : ℕ → Bool) → ((w : ℕ) → p w ≡ true → q w ≡ true) → (xs : List ℕ) → list_any p xs ≡ true → list_any q xs ≡ true
any_more p q e [] h = h
any_more p q e (x ∷ xs) h = elim (or_cases (p x) (list_any p xs) h) [ inl m ↦ or_left _ _ (e x m) | inr m ↦ or_right _ _ (any_more p q e xs m) ]

pub any_none : (p : ℕ → Bool) (xs : List ℕ) → ((w : ℕ) → mem w xs ≡ true → p w ≡ false) → list_any p xs ≡ false
any_none p [] e = refl
any_none p (x ∷ xs) e = or_none _ _ (e x (or_left _ _ (eq-eqb x x refl))) (any_none p xs (λ w h. e w (or_right _ _ h)))

index_of_mem : (xs : List ℕ) (w : ℕ) → mem w xs ≡ true → (i : ℕ) × (i < length xs) × (get_or xs i 0 ≡ w)
index_of_mem [] w h = cc
index_of_mem (x ∷ xs) w h = elim (or_cases (nat_eq w x) (mem w xs) h) [
  | inl m ↦ (0, omega arith, sym (same w x m))
  | inr m ↦ let found = index_of_mem xs w m in (suc found.0, omega arith, found.2)
]

-- The search ----------------------------------------------------------------------------------------------------------

-- whether a place leads to a target within so many steps
pub record Leading (led : ℕ → ℕ → Bool) (is_target : ℕ → Bool) (steps : ℕ → List ℕ) : Type 0 where
  pub at_once : (v : ℕ) → led 0 v ≡ is_target v
  pub by_step : (m v : ℕ) → led (suc m) v ≡ (is_target v || list_any (led m) (steps v))

-- where what was found leads, the beginning leads too, with as many steps more as were made
abbrev pub IsReached : (ℕ → ℕ → Bool) → List ℕ → List ℕ → ℕ → Type 0
IsReached led starts found at = (w : ℕ) → mem w found ≡ true → (m : ℕ) → led m w ≡ true → list_any (led (m + at)) starts ≡ true

-- what was looked at is no target, and what it leads to was found
abbrev pub IsClosed : (ℕ → Bool) → (ℕ → List ℕ) → List ℕ → ℕ → Type 0
IsClosed is_target steps found at = (i : ℕ) → i < at → (is_target (get_or found i 0) ≡ false) × ((w : ℕ) → mem w (steps (get_or found i 0)) ≡ true → mem w found ≡ true)

pub closed_on : (is_target : ℕ → Bool) (steps : ℕ → List ℕ) (found : List ℕ) (at v : ℕ) → at < length found → v ≡ get_or found at 0 → is_target v ≡ false → IsClosed is_target steps found at →
    IsClosed is_target steps (fold (insert_key nat_eq) found (steps v)) (at + 1)
closed_on is_target steps found at v within is other closed i h =
    let more = fold (insert_key nat_eq) found (steps v) in
    let kept : get_or more i 0 ≡ get_or found i 0 = fold_front found (steps v) i (omega arith) in
    subst (λ (x : ℕ). (is_target x ≡ false) × ((w : ℕ) → mem w (steps x) ≡ true → mem w more ≡ true)) (sym kept)
    (elim (nat_cases i at h) [
      | inl before ↦ ((closed i before).0, λ w e. fold_kept found (steps v) w ((closed i before).1 w e))
      | inr here ↦ subst (λ (x : ℕ). (is_target x ≡ false) × ((w : ℕ) → mem w (steps x) ≡ true → mem w more ≡ true)) (is ∙ ap (λ (n : ℕ). get_or found n 0) (sym here)) (other, λ w e. fold_new found (steps v) w e)
    ])
  where
    nat_cases : (a b : ℕ) → a < b + 1 → (a < b) ⊎ (a ≡ b)
    nat_cases a b h = grind arith

module _ (led : ℕ → ℕ → Bool) (is_target : ℕ → Bool) (steps : ℕ → List ℕ) (laws : Leading led is_target steps) where
  pub target_led : (m v : ℕ) → is_target v ≡ true → led m v ≡ true
  target_led zero v h = laws.at_once v ∙ h
  target_led (suc m) v h = laws.by_step m v ∙ or_left _ _ h

  pub step_led : (m v w : ℕ) → mem w (steps v) ≡ true → led m w ≡ true → led (suc m) v ≡ true
  step_led m v w h e = laws.by_step m v ∙ or_right _ _ (any_mem (led m) (steps v) w h e)

  pub led_more : (m v : ℕ) → led m v ≡ true → led (suc m) v ≡ true
  led_more zero v h = target_led 1 v (sym (laws.at_once v) ∙ h)
  led_more (suc m) v h = elim (or_cases (is_target v) (list_any (led m) (steps v)) (sym (laws.by_step m v) ∙ h)) [
    | inl e ↦ target_led (suc (suc m)) v e
    | inr e ↦ laws.by_step (suc m) v ∙ or_right _ _ (any_more (led m) (led (suc m)) (led_more m) (steps v) e)
  ]

  any_led_more : (starts : List ℕ) (m : ℕ) → list_any (led m) starts ≡ true → list_any (led (suc m)) starts ≡ true
  any_led_more starts m h = any_more (led m) (led (suc m)) (led_more m) starts h

  -- with more steps it leads there too
  pub any_led_up : (starts : List ℕ) (m k : ℕ) → list_any (led m) starts ≡ true → list_any (led (k + m)) starts ≡ true
  any_led_up starts m zero h = subst (λ (n : ℕ). list_any (led n) starts ≡ true) (omega arith) h
  any_led_up starts m (suc k) h = subst (λ (n : ℕ). list_any (led n) starts ≡ true) (omega arith) (any_led_more starts (k + m) (any_led_up starts m k h))

  pub reached_first : (starts : List ℕ) → IsReached led starts (fold (insert_key nat_eq) [] starts) 0
  reached_first starts w h m e = elim (fold_from [] starts w h) [
    | inl none ↦ cc
    | inr among ↦ subst (λ (n : ℕ). list_any (led n) starts ≡ true) (omega arith) (any_mem (led m) starts w among e)
  ]

  pub reached_on : (starts found : List ℕ) (at v : ℕ) → mem v found ≡ true → IsReached led starts found at →
      IsReached led starts (fold (insert_key nat_eq) found (steps v)) (at + 1)
  reached_on starts found at v here reached w h m e = elim (fold_from found (steps v) w h) [
    | inl before ↦ subst (λ (n : ℕ). list_any (led n) starts ≡ true) (omega arith) (any_led_more starts (m + at) (reached w before m e))
    | inr behind ↦ subst (λ (n : ℕ). list_any (led n) starts ≡ true) (omega arith) (reached v here (suc m) (step_led m v w behind e))
  ]

  pub reached_target : (starts found : List ℕ) (at v most : ℕ) → mem v found ≡ true → is_target v ≡ true → at ≤ most → IsReached led starts found at → list_any (led most) starts ≡ true
  reached_target starts found at v most here target within reached =
      let here_led : list_any (led at) starts ≡ true = subst (λ (n : ℕ). list_any (led n) starts ≡ true) (omega arith) (reached v here 0 (target_led 0 v target)) in
      subst (λ (n : ℕ). list_any (led n) starts ≡ true) (omega arith) (any_led_up starts at (most - at) here_led)

  never : (found : List ℕ) (at : ℕ) → length found ≤ at → IsClosed is_target steps found at → (m w : ℕ) → mem w found ≡ true → led m w ≡ false
  never found at past closed zero w h =
      let here = index_of_mem found w h in
      laws.at_once w ∙ subst (λ (x : ℕ). is_target x ≡ false) here.2 (closed here.0 (omega (arith, here.1))).0
  never found at past closed (suc m) w h =
      let here = index_of_mem found w h in
      let facts = closed here.0 (omega (arith, here.1)) in
      laws.by_step m w ∙ or_none _ _ (subst (λ (x : ℕ). is_target x ≡ false) here.2 facts.0)
      (any_none (led m) (steps w) (λ v e. never found at past closed m v (facts.1 v (subst (λ (x : ℕ). mem v (steps x) ≡ true) (sym here.2) e))))

  pub closed_none : (starts found : List ℕ) (at most : ℕ) → length found ≤ at → ((w : ℕ) → mem w starts ≡ true → mem w found ≡ true) → IsClosed is_target steps found at →
      list_any (led most) starts ≡ false
  closed_none starts found at most past begun closed = any_none (led most) starts (λ w e. never found at past closed most w (begun w e))
