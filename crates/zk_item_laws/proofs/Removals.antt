-- The removals of one connection among those of a moment.
use Rattle.std.proofs.Common.{◌≡◌, ℕ, suc, ◌≤◌, Bool, true, false, cond, not, List, [], ◌∷◌, length, filter, map, refl, sym, ap, subst, ◌∙◌, arith}
use Rattle.zk_base.specs.declared.time.Moment.{Moment}
use Rattle.zk_traffic.specs.declared.item.Item.{Item}
use Rattle.zk_traffic.specs.Instances.{Instance, in_order, insert, instances, is_first, is_over_by, live_at, over_between}
use Rattle.zk_traffic.specs.Items.{removed, removed_at}
use Rattle.zk_traffic.specs.Segments.{Segment}
use Rattle.zk_item_laws.specs.Own.{is_about, items_about}
use Rattle.zk_item_laws.proofs.Numbers.{has_number}

-- Two tests, in either order
filter-swap : {A : Type 0} (p q : A → Bool) (l : List A) → filter p (filter q l) ≡ filter q (filter p l)
filter-swap p q [] = refl
filter-swap p q (a ∷ l) = by_both (p a) (q a) refl refl (filter-swap p q l)
  where
    by_both : (x y : Bool) → p a ≡ x → q a ≡ y → filter p (filter q l) ≡ filter q (filter p l)
        → filter p (cond (q a) (a ∷ filter q l) (filter q l)) ≡ filter q (cond (p a) (a ∷ filter p l) (filter p l))
    by_both true true first second same =
        ap (λ b. filter p (cond b (a ∷ filter q l) (filter q l))) second ∙ ap (λ b. cond b (a ∷ filter p (filter q l)) (filter p (filter q l))) first ∙ ap (λ r. a ∷ r) same
        ∙ sym (ap (λ b. filter q (cond b (a ∷ filter p l) (filter p l))) first ∙ ap (λ b. cond b (a ∷ filter q (filter p l)) (filter q (filter p l))) second)
    by_both true false first second same =
        ap (λ b. filter p (cond b (a ∷ filter q l) (filter q l))) second ∙ same
        ∙ sym (ap (λ b. filter q (cond b (a ∷ filter p l) (filter p l))) first ∙ ap (λ b. cond b (a ∷ filter q (filter p l)) (filter q (filter p l))) second)
    by_both false true first second same =
        ap (λ b. filter p (cond b (a ∷ filter q l) (filter q l))) second ∙ ap (λ b. cond b (a ∷ filter p (filter q l)) (filter p (filter q l))) first ∙ same
        ∙ sym (ap (λ b. filter q (cond b (a ∷ filter p l) (filter p l))) first)
    by_both false false first second same =
        ap (λ b. filter p (cond b (a ∷ filter q l) (filter q l))) second ∙ same ∙ sym (ap (λ b. filter q (cond b (a ∷ filter p l) (filter p l))) first)

insert-other : (p : Instance → Bool) (i : Instance) (l : List Instance) → p i ≡ false → filter p (insert i l) ≡ filter p l
insert-other p i [] is = ap (λ b. cond b (i ∷ []) []) is
insert-other p i (next ∷ rest) is = by_first (is_first next i) (insert-other p i rest is)
  where
    by_first : (b : Bool) → filter p (insert i rest) ≡ filter p rest → filter p (cond b (next ∷ insert i rest) (i ∷ next ∷ rest)) ≡ filter p (next ∷ rest)
    by_first true same = ap (λ l. cond (p next) (next ∷ l) l) same
    by_first false same = ap (λ b. cond b (i ∷ filter p (next ∷ rest)) (filter p (next ∷ rest))) is

-- a head and its rest where none passes
no-head : {A : Type 0} (b : Bool) (a : A) (l : List A) → cond b (a ∷ l) l ≡ [] → (b ≡ false) × (l ≡ [])
no-head true a l none = absurd (some none)
  where
    some : a ∷ l ≡ [] → ⊥
    some e = cc
no-head false a l none = (refl, none)

insert-one : (p : Instance → Bool) (i : Instance) (l : List Instance) → p i ≡ true → filter p l ≡ [] → filter p (insert i l) ≡ i ∷ []
insert-one p i [] is none = ap (λ b. cond b (i ∷ []) []) is
insert-one p i (next ∷ rest) is none =
    let parts = no-head (p next) next (filter p rest) none in
    by_first (is_first next i) parts.0 (insert-one p i rest is parts.1)
  where
    by_first : (b : Bool) → p next ≡ false → filter p (insert i rest) ≡ i ∷ [] → filter p (cond b (next ∷ insert i rest) (i ∷ next ∷ rest)) ≡ i ∷ []
    by_first true other same = ap (λ x. cond x (next ∷ filter p (insert i rest)) (filter p (insert i rest))) other ∙ same
    by_first false other same = ap (λ b. cond b (i ∷ filter p (next ∷ rest)) (filter p (next ∷ rest))) is ∙ ap (λ l. i ∷ l) none

at-most-none : (n : ℕ) (l : List Instance) → suc (length l) ≤ 1 → l ≡ []
at-most-none n [] within = refl
at-most-none n (i ∷ l) within = absurd (let more : length (i ∷ l) ≡ suc (length l) = refl in omega (arith, within, more))

-- where at most one passes, order changes nothing
in_order-one : (p : Instance → Bool) (l : List Instance) → length (filter p l) ≤ 1 → filter p (in_order l) ≡ filter p l
in_order-one p [] one = refl
in_order-one p (i ∷ rest) one = by_test (p i) refl one (in_order-one p rest)
  where
    by_test : (b : Bool) → p i ≡ b → length (cond (p i) (i ∷ filter p rest) (filter p rest)) ≤ 1 → (length (filter p rest) ≤ 1 → filter p (in_order rest) ≡ filter p rest)
        → filter p (insert i (in_order rest)) ≡ cond (p i) (i ∷ filter p rest) (filter p rest)
    by_test true is one same =
        let within : suc (length (filter p rest)) ≤ 1 = subst (λ b. length (cond b (i ∷ filter p rest) (filter p rest)) ≤ 1) is one in
        let none = at-most-none 0 (filter p rest) within in
        insert-one p i (in_order rest) is (same (omega (arith, within)) ∙ none)
        ∙ sym (ap (λ b. cond b (i ∷ filter p rest) (filter p rest)) is ∙ ap (λ l. i ∷ l) none)
    by_test false is one same =
        insert-other p i (in_order rest) is ∙ same (subst (λ b. length (cond b (i ∷ filter p rest) (filter p rest)) ≤ 1) is one)
        ∙ sym (ap (λ b. cond b (i ∷ filter p rest) (filter p rest)) is)

-- a removal is about the connection of its number
pub about-map : (number : ℕ) (f : Instance → Item) (l : List Instance) → ((i : Instance) → is_about number (f i).what ≡ has_number number i) → items_about number (map f l) ≡ map f (filter (has_number number) l)
about-map number f [] each = refl
about-map number f (i ∷ rest) each = by_test (has_number number i) (each i) (about-map number f rest each)
  where
    by_test : (b : Bool) → is_about number (f i).what ≡ b → items_about number (map f rest) ≡ map f (filter (has_number number) rest)
        → cond (is_about number (f i).what) (f i ∷ items_about number (map f rest)) (items_about number (map f rest)) ≡ map f (cond b (i ∷ filter (has_number number) rest) (filter (has_number number) rest))
    by_test true is same = ap (λ b. cond b (f i ∷ items_about number (map f rest)) (items_about number (map f rest))) is ∙ ap (λ l. f i ∷ l) same
    by_test false is same = ap (λ b. cond b (f i ∷ items_about number (map f rest)) (items_about number (map f rest))) is ∙ same

abbrev pub over : Moment → List Instance → List Instance
over t l = filter (λ i. is_over_by t i.conversation) l

abbrev pub live : Moment → List Instance → List Instance
live t l = filter (λ i. not (is_over_by t i.conversation)) l

short-filter : {A : Type 0} (p : A → Bool) (l : List A) → length (filter p l) ≤ length l
short-filter p [] = omega arith
short-filter p (a ∷ l) = by_test (p a) (short-filter p l)
  where
    by_test : (b : Bool) → length (filter p l) ≤ length l → length (cond b (a ∷ filter p l) (filter p l)) ≤ suc (length l)
    by_test true less = omega (arith, less)
    by_test false less = omega (arith, less)

-- the removals between two moments, of a number
pub removed-about : (limit : ℕ) (segments : List Segment) (from to : Moment) (number : ℕ) (mine : List Instance) → filter (has_number number) (instances limit segments) ≡ mine → length mine ≤ 1
    → items_about number (map removed (in_order (over_between limit segments from to))) ≡ map removed (over to (live from mine))
removed-about limit segments from to number mine is one =
    let p = has_number number in
    let all = instances limit segments in
    let swapped : filter p (over to (live from all)) ≡ over to (live from mine) =
    filter-swap p (λ (i : Instance). is_over_by to i.conversation) (live from all)
    ∙ ap (over to) (filter-swap p (λ (i : Instance). not (is_over_by from i.conversation)) all)
    ∙ ap (λ l. over to (live from l)) is in
    let less = short-filter (λ (i : Instance). is_over_by to i.conversation) (live from mine) in
    let lesser = short-filter (λ (i : Instance). not (is_over_by from i.conversation)) mine in
    about-map number removed (in_order (over to (live from all))) (λ i. refl)
    ∙ ap (map removed)
    (in_order-one p (over to (live from all)) (subst (λ l. length l ≤ 1) (sym swapped) (omega (arith, one, less, lesser))) ∙ swapped)

-- those at the end
pub ended-about : (limit : ℕ) (segments : List Segment) (last : Moment) (number : ℕ) (mine : List Instance) → filter (has_number number) (instances limit segments) ≡ mine
    → items_about number (map (removed_at last) (live_at limit segments last)) ≡ map (removed_at last) (live last mine)
ended-about limit segments last number mine is =
    about-map number (removed_at last) (live_at limit segments last) (λ i. refl)
    ∙ ap (map (removed_at last)) (filter-swap (has_number number) (λ (i : Instance). not (is_over_by last i.conversation)) (instances limit segments) ∙ ap (live last) is)
