-- What the segments so far say of one connection.
use Rattle.std.proofs.Common.{◌≡◌, ◌⊎◌, ℕ, ◌+◌, ◌<◌, ◌≤ℤ◌, ℤ, Bool, true, false, cond, List, [], ◌∷◌, ◌++◌, length, filter, map, Option, None, Some, refl, sym, ap, ◌∙◌, arith, inl, inr, not}
use Rattle.std.specs.List.{flat_map, list_all, list_any}
use Rattle.std.specs.Prelude.{◌==◌, int_le}
use Rattle.std.proofs.lemmas.Bool.{eqb-true}
use Rattle.std.proofs.lemmas.Bool.Decides.{nat_tests}
use Rattle.std.proofs.lemmas.Grind.{flat_map-append}
use Rattle.std.proofs.lemmas.Int.{ints}
use Rattle.std.proofs.lemmas.List.{append-nil, map-append}
use Rattle.std.proofs.lemmas.List.Elements.{filter-append}
use Rattle.std.proofs.lemmas.List.Sums.{fold-append}
use Rattle.zk_base.specs.declared.time.Moment.{Moment}
use Rattle.zk_conn.specs.declared.key.Key.{Key}
use Rattle.zk_conn.specs.Segment.{key_of, same_key}
use Rattle.zk_traffic.specs.declared.item.Item.{Item}
use Rattle.zk_traffic.specs.declared.item.What.TheVariants as what
use Rattle.zk_traffic.specs.Conversation.{Conversation, unbegun, with_segment}
use Rattle.zk_traffic.specs.Instances.{Instance, begins, begun, instances, instances_from, is_over_by, joined_by, latest, number_of, removal, with_number}
use Rattle.zk_traffic.specs.Items.{facts, item, items_with, numbered, own_items, segment_items}
use Rattle.zk_traffic.specs.Segments.{Segment}
use Rattle.zk_traffic.specs.Steps.{Step, steps}
use Rattle.zk_traffic.proofs.SegmentLemmas.{steps-append}
use Rattle.zk_item_laws.specs.Own.{comes_in_time, conversation_of, is_about, is_of, items_about, items_behind, own_items_with, own_segments, with_own, is_behind, comes_after}
use Rattle.zk_item_laws.proofs.Each.{Each, IsOf, items_with-each}
use Rattle.zk_item_laws.proofs.Numbers.{has_number, none-behind, none-beyond, one-there}

-- One more own segment ---------------------------------------------------------------------------------------------------

pub own-push : (limit number : ℕ) (segments : List Segment) (s : Segment) (b : Bool) → (number_of limit (key_of s.view) (segments ++ s ∷ []) == number) ≡ b
    → own_segments limit number (segments ++ s ∷ []) ≡ own_segments limit number segments ++ cond b (s ∷ []) []
unfolding own_segments
own-push limit number segments s b is =
    let step : Step Segment = record { before = segments; last = s } in
    ap (λ l. map (λ (step : Step Segment). step.last) (filter (is_of limit number) l)) (steps-append segments s)
    ∙ ap (map (λ (step : Step Segment). step.last)) (filter-append (is_of limit number) (steps segments) (step ∷ []))
    ∙ map-append (λ (step : Step Segment). step.last) (filter (is_of limit number) (steps segments)) (filter (is_of limit number) (step ∷ []))
    ∙ ap (λ x. map (λ (step : Step Segment). step.last) (filter (is_of limit number) (steps segments)) ++ map (λ (step : Step Segment). step.last) (cond x (step ∷ []) [])) is
    ∙ ap (λ l. map (λ (step : Step Segment). step.last) (filter (is_of limit number) (steps segments)) ++ l) (by_test b)
  where
    by_test : (x : Bool) → map (λ (step : Step Segment). step.last) (cond x (record { before = segments; last = s } ∷ []) []) ≡ cond x (s ∷ []) []
    by_test true = refl
    by_test false = refl

pub conversation-push : (limit : ℕ) (own : List Segment) (s : Segment) → conversation_of limit (own ++ s ∷ []) ≡ with_own limit (conversation_of limit own) s
unfolding conversation_of
conversation-push limit own s = fold-append (with_own limit) None own (s ∷ [])

pub conversation-none : (limit : ℕ) → conversation_of limit [] ≡ None
unfolding conversation_of
conversation-none limit = refl

abbrev pub told : ℕ → ℕ → List Segment → List Item
told limit number own = flat_map (items_behind limit number) (steps own)

pub told-push : (limit number : ℕ) (own : List Segment) (s : Segment) → told limit number (own ++ s ∷ []) ≡ told limit number own ++ own_items_with limit number (conversation_of limit own) s
told-push limit number own s =
    let step : Step Segment = record { before = own; last = s } in
    ap (flat_map (items_behind limit number)) (steps-append own s)
    ∙ flat_map-append (items_behind limit number) (steps own) (step ∷ [])
    ∙ ap (λ l. flat_map (items_behind limit number) (steps own) ++ l) (append-nil (items_behind limit number step))

-- What stands ------------------------------------------------------------------------------------------------------------

-- a connection that didn't begin yet
pub record Unused (limit : ℕ) (segments : List Segment) (number : ℕ) : Type 0 where
  pub own_are : own_segments limit number segments ≡ []
  pub beyond : (number ≡ 0) ⊎ (length (begun limit segments) < number)

-- one that did: it is the latest of its key, or over
pub record Used (limit : ℕ) (segments : List Segment) (t : Moment) (number : ℕ) : Type 0 where
  pub before : List Key
  pub key : Key
  pub rest : List Key
  pub c : Conversation
  pub keys : begun limit segments ≡ before ++ key ∷ rest
  pub place : length before + 1 ≡ number
  pub is : conversation_of limit (own_segments limit number segments) ≡ Some c
  pub of_key : list_all (λ (s : Segment). same_key (key_of s.view) key) (own_segments limit number segments) ≡ true
  pub in_time : list_all (λ (step : Step Segment). comes_in_time (conversation_of limit step.before) step.last) (steps (own_segments limit number segments)) ≡ true
  pub current : list_any (λ k. same_key k key) rest ≡ false → latest limit key segments ≡ Some c
  pub past : list_any (λ k. same_key k key) rest ≡ true → is_over_by t c ≡ true
  pub none_behind : list_any (λ k. same_key k key) rest ≡ false → list_all (λ (step : Step Segment). not (is_behind limit number key step)) (steps segments) ≡ true
  pub all_after : list_any (λ k. same_key k key) rest ≡ true → list_all (comes_after limit number key c) (steps segments) ≡ true

abbrev pub Stands : ℕ → List Segment → Moment → ℕ → Type 0
Stands limit segments t number = Unused limit segments number ⊎ Used limit segments t number

pub over-later : (a b c : ℤ) → int_le a b ≡ true → b ≤ℤ c → int_le a c ≡ true
over-later a b c first second = grind (arith, ints, first, second)

pub stands-later : (limit : ℕ) (segments : List Segment) (t later : Moment) (number : ℕ) → t.0 ≤ℤ later.0 → Stands limit segments t number → Stands limit segments later number
stands-later limit segments t later number after (inl unused) = inl unused
stands-later limit segments t later number after (inr used) = inr (record {
  before = used.before;
  key = used.key;
  rest = used.rest;
  c = used.c;
  keys = used.keys;
  place = used.place;
  is = used.is;
  of_key = used.of_key;
  in_time = used.in_time;
  current = used.current;
  past = λ again. over-later (removal used.c).0 t.0 later.0 (used.past again) after;
  none_behind = used.none_behind;
  all_after = used.all_after;
})

pub stands-none : (limit : ℕ) (t : Moment) (number : ℕ) → Stands limit [] t number
unfolding own_segments begun
stands-none limit t number = by_zero (number == 0) refl
  where
    some : (n : ℕ) → (n == 0) ≡ false → 0 < n
    some n is = grind (arith, nat_tests, is)

    by_zero : (b : Bool) → (number == 0) ≡ b → Stands limit [] t number
    by_zero true is = inl (record { own_are = refl; beyond = inl (eqb-true number 0 is) })
    by_zero false is = inl (record { own_are = refl; beyond = inr (some number is) })

-- its removal by a moment
abbrev pub gone : ℕ → Moment → Option Conversation → List Item
gone number t None = []
gone number t (Some c) = cond (is_over_by t c) (item (removal c) (what.Removed (numbered number) (facts c)) ∷ []) []

-- what it brought by a moment
abbrev pub brought : ℕ → ℕ → List Segment → Moment → List Item
brought limit number own t = told limit number own ++ gone number t (conversation_of limit own)

-- Its instance -----------------------------------------------------------------------------------------------------------

-- the instance of its number, where it is the latest of its key
abbrev pub instance_of : Bool → ℕ → Key → Conversation → List Instance
instance_of again number key c = cond again [] (record { number = number; key = key; conversation = c } ∷ [])

pub unused-instance : (limit : ℕ) (segments : List Segment) (number : ℕ) → Unused limit segments number → filter (has_number number) (instances limit segments) ≡ []
unfolding instances
unused-instance limit segments number unused = by_beyond unused.beyond
  where
    by_beyond : (number ≡ 0) ⊎ (length (begun limit segments) < number) → filter (has_number number) (instances limit segments) ≡ []
    by_beyond (inl zero) = none-behind limit segments number 1 (begun limit segments) (omega (arith, zero))
    by_beyond (inr beyond) = none-beyond limit segments number 1 (begun limit segments) (omega (arith, beyond))

pub used-instance : (limit : ℕ) (segments : List Segment) (t : Moment) (number : ℕ) → (used : Used limit segments t number)
    → filter (has_number number) (instances limit segments) ≡ instance_of (list_any (λ k. same_key k used.key) used.rest) number used.key used.c
unfolding instances
used-instance limit segments t number used =
    ap (λ l. filter (has_number number) (instances_from limit segments 1 l)) used.keys
    ∙ one-there limit segments number 1 used.before used.key used.rest (let placed = used.place in omega (arith, placed))
    ∙ by_again (list_any (λ k. same_key k used.key) used.rest) refl
  where
    by_again : (b : Bool) → list_any (λ k. same_key k used.key) used.rest ≡ b
        → cond (list_any (λ k. same_key k used.key) used.rest) [] (with_number number used.key (latest limit used.key segments)) ≡ instance_of (list_any (λ k. same_key k used.key) used.rest) number used.key used.c
    by_again true again =
        ap (λ b. cond b [] (with_number number used.key (latest limit used.key segments))) again
        ∙ sym (ap (λ b. instance_of b number used.key used.c) again)
    by_again false last = ap (λ o. cond (list_any (λ k. same_key k used.key) used.rest) [] (with_number number used.key o)) (used.current last)

-- Items of a segment -----------------------------------------------------------------------------------------------------

items-if : (number : ℕ) (b : Bool) (l : List Item) → Each (λ i. is_about number i.what ≡ b) l → items_about number l ≡ cond b l []
items-if number true [] each = refl
items-if number false [] each = refl
items-if number true (i ∷ l) each = ap (λ x. cond x (i ∷ items_about number l) (items_about number l)) each.0 ∙ ap (λ r. i ∷ r) (items-if number true l each.1)
items-if number false (i ∷ l) each = ap (λ x. cond x (i ∷ items_about number l) (items_about number l)) each.0 ∙ items-if number false l each.1

about-each : (number m : ℕ) (b : Bool) (t : Moment) (l : List Item) → (m == number) ≡ b → Each (IsOf t m) l → Each (λ i. is_about number i.what ≡ b) l
about-each number m b t [] is each = tt
about-each number m b t (i ∷ l) is each = (each.0.of number ∙ is, about-each number m b t l is each.1)

-- those of a segment are all of its connection
pub segment-about : (limit number : ℕ) (segments : List Segment) (s : Segment) (b : Bool) → (number_of limit (key_of s.view) (segments ++ s ∷ []) == number) ≡ b
    → items_about number (segment_items limit segments s) ≡ cond b (own_items limit number (latest limit (key_of s.view) segments) s) []
unfolding segment_items own_items
segment-about limit number segments s b is =
    let o = latest limit (key_of s.view) segments in
    let m = number_of limit (key_of s.view) (segments ++ s ∷ []) in
    items-if number b (own_items limit m o s)
    (about-each number m b s.moment (own_items limit m o s) is (items_with-each limit m (begins o s) (joined_by o s) s (facts (with_segment limit (joined_by o s) s))))
    ∙ by_test b is
  where
    by_test : (x : Bool) → (number_of limit (key_of s.view) (segments ++ s ∷ []) == number) ≡ x
        → cond x (own_items limit (number_of limit (key_of s.view) (segments ++ s ∷ [])) (latest limit (key_of s.view) segments) s) []
        ≡ cond x (own_items limit number (latest limit (key_of s.view) segments) s) []
    by_test true same = ap (λ n. own_items limit n (latest limit (key_of s.view) segments) s) (eqb-true (number_of limit (key_of s.view) (segments ++ s ∷ [])) number same)
    by_test false apart = refl

-- the first opens the connection
pub joined-new : (o : Option Conversation) (s : Segment) → begins o s ≡ true → joined_by o s ≡ unbegun s
joined-new None s new = refl
joined-new (Some c) s new = ap (λ b. cond b (unbegun s) c) new

pub items-opening : (limit number : ℕ) (o : Option Conversation) (s : Segment) → begins o s ≡ true → own_items limit number o s ≡ own_items_with limit number None s
unfolding own_items
items-opening limit number o s new =
    ap (λ b. items_with limit number b (joined_by o s) s (facts (with_segment limit (joined_by o s) s))) new
    ∙ ap (λ (c : Conversation). items_with limit number true c s (facts (with_segment limit c s))) (joined-new o s new)

pub items-going_on : (limit number : ℕ) (c : Conversation) (s : Segment) → is_over_by s.moment c ≡ false → own_items limit number (Some c) s ≡ own_items_with limit number (Some c) s
unfolding own_items
items-going_on limit number c s live =
    ap (λ b. items_with limit number b (cond b (unbegun s) c) s (facts (with_segment limit (cond b (unbegun s) c) s))) live
