-- Segments of a key behind a connection's own.
use Rattle.std.proofs.Common.{◌≡◌, ℕ, ◌+◌, ◌≤◌, Bool, true, false, not, ◌&&◌, ◌||◌, List, [], ◌∷◌, ◌++◌, length, refl, sym, ap, ◌∙◌, arith, append_assoc, length-append}
use Rattle.std.specs.List.{list_all}
use Rattle.std.specs.Prelude.{nat_lt}
use Rattle.std.proofs.lemmas.Bool.{true≢false}
use Rattle.std.proofs.lemmas.Bool.Decides.{nat_tests}
use Rattle.std.proofs.lemmas.List.{append-nil}
use Rattle.std.proofs.lemmas.List.Folds.{list_all-append}
use Rattle.zk_conn.specs.declared.key.Key.{Key}
use Rattle.zk_conn.specs.Segment.{key_of, same_key}
use Rattle.zk_traffic.specs.Conversation.{Conversation}
use Rattle.zk_traffic.specs.Instances.{begun, begun_at, is_over_by, number_of}
use Rattle.zk_traffic.specs.Segments.{Segment}
use Rattle.zk_traffic.specs.Steps.{Step, so_far, steps, steps_behind}
use Rattle.zk_traffic.proofs.SegmentLemmas.{begun-append, steps-append}
use Rattle.zk_traffic.proofs.SumLemmas.{last_place-within}
use Rattle.zk_item_laws.specs.Own.{comes_after, is_behind}

-- a test of all, and of one more
pub both-hold : {A : Type 0} (p : A → Bool) (l : List A) (a : A) → list_all p l ≡ true → p a ≡ true → list_all p (l ++ a ∷ []) ≡ true
both-hold p l a first second = list_all-append p l (a ∷ []) ∙ ap (λ b. b && list_all p (a ∷ [])) first ∙ ap (λ b. b && true) second

pub steps-hold : (p : Step Segment → Bool) (segments : List Segment) (s : Segment) → list_all p (steps segments) ≡ true → p (record { before = segments; last = s }) ≡ true → list_all p (steps (segments ++ s ∷ [])) ≡ true
steps-hold p segments s first second = ap (list_all p) (steps-append segments s) ∙ both-hold p (steps segments) (record { before = segments; last = s }) first second

-- where none is behind, all that are come after
pub after-none : (limit number : ℕ) (key : Key) (c : Conversation) (l : List (Step Segment)) → list_all (λ (step : Step Segment). not (is_behind limit number key step)) l ≡ true → list_all (comes_after limit number key c) l ≡ true
after-none limit number key c [] none = refl
after-none limit number key c (step ∷ l) none =
    by_behind (not (is_behind limit number key step)) refl none (after-none limit number key c l)
  where
    by_behind : (b : Bool) → not (is_behind limit number key step) ≡ b
        → (not (is_behind limit number key step) && list_all (λ (step : Step Segment). not (is_behind limit number key step)) l) ≡ true
        → (list_all (λ (step : Step Segment). not (is_behind limit number key step)) l ≡ true → list_all (comes_after limit number key c) l ≡ true)
        → ((not (is_behind limit number key step) || is_over_by step.last.moment c) && list_all (comes_after limit number key c) l) ≡ true
    by_behind true is none more =
        ap (λ b. (b || is_over_by step.last.moment c) && list_all (comes_after limit number key c) l) is
        ∙ more (sym (ap (λ b. b && list_all (λ (step : Step Segment). not (is_behind limit number key step)) l) is) ∙ none)
    by_behind false is none more =
        absurd (true≢false (sym none ∙ ap (λ b. b && list_all (λ (step : Step Segment). not (is_behind limit number key step)) l) is))

-- a segment of another key, of the number itself, or at or after the moment at which the connection is over
pub other-not-behind : (limit number : ℕ) (key : Key) (step : Step Segment) → same_key (key_of step.last.view) key ≡ false → not (is_behind limit number key step) ≡ true
other-not-behind limit number key step apart = ap (λ b. not (b && nat_lt number (number_of limit (key_of step.last.view) (so_far step)))) apart

not-behind : (a : Bool) (number m : ℕ) → m ≤ number → not (a && nat_lt number m) ≡ true
not-behind true number m within = grind (arith, nat_tests, within)
not-behind false number m within = refl

pub mine-not-behind : (limit number : ℕ) (key : Key) (step : Step Segment) → number_of limit (key_of step.last.view) (so_far step) ≤ number → not (is_behind limit number key step) ≡ true
mine-not-behind limit number key step within = not-behind (same_key (key_of step.last.view) key) number (number_of limit (key_of step.last.view) (so_far step)) within

pub over-after : (limit number : ℕ) (key : Key) (c : Conversation) (step : Step Segment) → is_over_by step.last.moment c ≡ true → comes_after limit number key c step ≡ true
over-after limit number key c step over = ap (λ b. not (is_behind limit number key step) || b) over ∙ or_true (not (is_behind limit number key step))
  where
    or_true : (b : Bool) → (b || true) ≡ true
    or_true true = refl
    or_true false = refl

-- No segment is of a greater number than so many connections began -------------------------------------------------------

begun-longer : (limit : ℕ) (l m : List Segment) → length (begun limit l) ≤ length (begun limit (l ++ m))
begun-longer limit l [] = let same : length (begun limit (l ++ [])) ≡ length (begun limit l) = ap (λ x. length (begun limit x)) (append-nil l) in omega (arith, same)
begun-longer limit l (s ∷ m) =
    let more = begun-longer limit (l ++ s ∷ []) m in
    let same : length (begun limit ((l ++ s ∷ []) ++ m)) ≡ length (begun limit (l ++ s ∷ m)) = ap (λ x. length (begun limit x)) (append_assoc l (s ∷ []) m) in
    let one : length (begun limit (l ++ s ∷ [])) ≡ length (begun limit l) + length (begun_at limit (record { before = l; last = s })) =
    ap length (begun-append limit l s) ∙ length-append (begun limit l) (begun_at limit (record { before = l; last = s })) in
    omega (arith, more, same, one)

none-from : (limit number : ℕ) (key : Key) (before rest : List Segment) → length (begun limit (before ++ rest)) ≤ number
    → list_all (λ (step : Step Segment). not (is_behind limit number key step)) (steps_behind before rest) ≡ true
none-from limit number key before [] within = refl
none-from limit number key before (s ∷ rest) within =
    let so_far_begun = begun-longer limit (before ++ s ∷ []) rest in
    let same : length (begun limit ((before ++ s ∷ []) ++ rest)) ≡ length (begun limit (before ++ s ∷ rest)) = ap (λ x. length (begun limit x)) (append_assoc before (s ∷ []) rest) in
    let placed = last_place-within (key_of s.view) (begun limit (before ++ s ∷ [])) in
    ap (λ b. b && list_all (λ (step : Step Segment). not (is_behind limit number key step)) (steps_behind (before ++ s ∷ []) rest))
    (mine-not-behind limit number key (record { before = before; last = s }) (omega (arith, so_far_begun, same, placed, within)))
    ∙ none-from limit number key (before ++ s ∷ []) rest (omega (arith, same, within))

pub none-greater : (limit number : ℕ) (key : Key) (segments : List Segment) → length (begun limit segments) ≤ number
    → list_all (λ (step : Step Segment). not (is_behind limit number key step)) (steps segments) ≡ true
none-greater limit number key segments within = none-from limit number key [] segments within
