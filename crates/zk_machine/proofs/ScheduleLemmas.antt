-- Events that wait for their moments, by their order numbers, and the index of their dues.
use Rattle.std.proofs.Common.{◌≡◌, ◌==◌, ℕ, zero, suc, ◌+◌, ◌-◌, ◌<◌, Bool, true, false, cond, not, List, [], ◌∷◌, ◌++◌, get_or, length, map, filter, find, Option, Some, None, slice_set, ◌≤ℤ◌, refl, sym, ap, subst, ◌∙◌, arith, length-append, length-set, true≢false}
use Rattle.std.specs.Prelude.{ℤ, ◌^◌, ◌+ℤ◌, pos, ◌&&◌}
use Rattle.std.specs.Int.{int_max, int_min}
use Rattle.std.specs.List.{filter_map}
use Rattle.std.specs.Option.{option_map}
use Rattle.std.proofs.lemmas.Bool.Decides.{Decides-eqb, nat_tests}
use Rattle.std.proofs.lemmas.Int.{ints}
use Rattle.std.proofs.lemmas.List.{map-append}
use Rattle.std.proofs.lemmas.List.Elements.{filter_map-append}
use Rattle.std.proofs.lemmas.Option.{none-some, same_Some}
use Rattle.zk_base.specs.declared.time.Moment.{Moment}
use Rattle.zk_base.specs.declared.time.Span.{Span}
use Rattle.zk_tree.specs.Table.{Table, Entry, entry_at, entry_numbered, moment_after, assign_at, insert, expire, expire_at, with_entries, without}
use Rattle.zk_tree.specs.Value as plain
use Rattle.zk_tree.specs.Value.{same, same_key}
use Rattle.zk_typed.specs.World.{Queued, Scheduled}
use Rattle.zk_table.proofs.SlotLemmas.{eqb-refl, eqb-apart}
use Rattle.zk_machine.specs.declared.queued.Scheduled as rust
use Rattle.zk_machine.specs.Queued.{queued_of, scheduled_of}
use Rattle.zk_machine.specs.Schedule.{Plan, Slots, Numbered, AreLast, Each, IsFound, others, waiting, plan_of, with_event, event_numbered, key_for, entry_for, index_of}

-- Numbers ----------------------------------------------------------------------------------------------------------

eqb-sym : (a b : ℕ) → (a == b) ≡ (b == a)
eqb-sym a b = by (a == b) refl
  where
    by : (t : Bool) → (a == b) ≡ t → (a == b) ≡ (b == a)
    by true e = e ∙ sym (ap (λ n. b == n) ((Decides-eqb a b).0 e) ∙ eqb-refl b)
    by false e = e ∙ sym (eqb-apart b a (λ same. absurd (true≢false (sym (ap (λ n. n == b) (sym same) ∙ eqb-refl b) ∙ e))))

-- what is in a place
abbrev pub slot_at : Slots → ℕ → Option rust.Scheduled
slot_at [] place = None
slot_at (slot ∷ slots) zero = slot
slot_at (slot ∷ slots) (suc place) = slot_at slots place

-- Order numbers ----------------------------------------------------------------------------------------------------

-- one more, in the place of its order number
pub numbered-more : (n : ℕ) (slots : Slots) (one : rust.Scheduled) → Numbered n slots → one.order ≡ n + length slots → Numbered n (slots ++ Some one ∷ [])
numbered-more n [] one h is = (omega (arith, is), tt)
numbered-more n (None ∷ slots) one h is = numbered-more (suc n) slots one h (omega (arith, is))
numbered-more n (Some other ∷ slots) one h is = (h.0, numbered-more (suc n) slots one h.1 (omega (arith, is)))

-- one less
pub numbered-less : (n place : ℕ) (slots : Slots) → Numbered n slots → Numbered n (slice_set slots place None)
numbered-less n place [] h = tt
numbered-less n zero (None ∷ slots) h = h
numbered-less n zero (Some one ∷ slots) h = h.1
numbered-less n (suc place) (None ∷ slots) h = numbered-less (suc n) place slots h
numbered-less n (suc place) (Some one ∷ slots) h = (h.0, numbered-less (suc n) place slots h.1)

-- the order numbers of what waits
pub below : (n : ℕ) (slots : Slots) → Numbered n slots → Each (λ one. one.order < n + length slots) (waiting slots)
below n [] h = tt
below n (None ∷ slots) h = up (waiting slots) (below (suc n) slots h)
  where
    up : (events : List Scheduled) → Each (λ one. one.order < suc n + length slots) events → Each (λ one. one.order < n + suc (length slots)) events
    up [] h = tt
    up (one ∷ events) h = (omega (arith, h.0), up events h.1)
below n (Some one ∷ slots) h = (omega (arith, h.0), up (waiting slots) (below (suc n) slots h.1))
  where
    up : (events : List Scheduled) → Each (λ one. one.order < suc n + length slots) events → Each (λ one. one.order < n + suc (length slots)) events
    up [] h = tt
    up (one ∷ events) h = (omega (arith, h.0), up events h.1)

-- none has a lower order number than they begin with
not-under : (n order : ℕ) (slots : Slots) → Numbered n slots → order < n → event_numbered order (waiting slots) ≡ None
not-under n order [] h less = refl
not-under n order (None ∷ slots) h less = not-under (suc n) order slots h (omega (arith, less))
not-under n order (Some one ∷ slots) h less =
    ap (λ (met : Bool). cond met (Some (scheduled_of one)) (event_numbered order (waiting slots))) (eqb-apart one.order order (λ e. omega (arith, e, h.0, less)))
    ∙ not-under (suc n) order slots h.1 (omega (arith, less))

-- the event of an order number is that of its place
pub found-slot : (n place : ℕ) (slots : Slots) → Numbered n slots → event_numbered (n + place) (waiting slots) ≡ option_map scheduled_of (slot_at slots place)
found-slot n place [] h = refl
found-slot n zero (None ∷ slots) h = not-under (suc n) (n + 0) slots h (omega arith)
found-slot n zero (Some one ∷ slots) h =
    let e : one.order ≡ n + 0 = omega (arith, h.0) in
    ap (λ (met : Bool). cond met (Some (scheduled_of one)) (event_numbered (n + 0) (waiting slots))) (ap (λ m. one.order == m) (sym e) ∙ eqb-refl one.order)
found-slot n (suc place) (None ∷ slots) h =
    let e : n + suc place ≡ suc n + place = omega arith in
    ap (λ m. event_numbered m (waiting slots)) e ∙ found-slot (suc n) place slots h
found-slot n (suc place) (Some one ∷ slots) h =
    let e : n + suc place ≡ suc n + place = omega arith in
    ap (λ (met : Bool). cond met (Some (scheduled_of one)) (event_numbered (n + suc place) (waiting slots))) (eqb-apart one.order (n + suc place) (λ same. omega (arith, same, h.0)))
    ∙ (ap (λ m. event_numbered m (waiting slots)) e ∙ found-slot (suc n) place slots h.1)

-- an order number that none of the places has
pub absent : (n order : ℕ) (slots : Slots) → Numbered n slots → ((place : ℕ) → place < length slots → n + place ≡ order → ⊥) → event_numbered order (waiting slots) ≡ None
absent n order [] h none = refl
absent n order (None ∷ slots) h none =
    absent (suc n) order slots h (λ place within is. none (suc place) (omega (arith, within)) (omega (arith, is)))
absent n order (Some one ∷ slots) h none =
    ap (λ (met : Bool). cond met (Some (scheduled_of one)) (event_numbered order (waiting slots))) (eqb-apart one.order order (λ e. none 0 (omega arith) (omega (arith, e, h.0))))
    ∙ absent (suc n) order slots h.1 (λ place within is. none (suc place) (omega (arith, within)) (omega (arith, is)))

pub slot_is : (slots : Slots) (place : ℕ) (slot : Option rust.Scheduled) → place < length slots → slot ≡ get_or slots place slot → slot_at slots place ≡ slot
slot_is [] place slot within is = absurd (omega (arith, within))
slot_is (first ∷ slots) zero slot within is = sym is
slot_is (first ∷ slots) (suc place) slot within is = slot_is slots place slot (omega (arith, within)) is

found-from : (from : ℕ) (all : Slots) (n : ℕ) (slots : Slots) → Numbered from all → Numbered (from + n) slots → ((place : ℕ) → slot_at all (n + place) ≡ slot_at slots place)
    → Each (λ one. event_numbered one.order (waiting all) ≡ Some one) (waiting slots)
found-from from all n [] whole h same = tt
found-from from all n (None ∷ slots) whole h same =
    let P : ℕ → Type 0 = λ m. Numbered m slots in
    let up : suc (from + n) ≡ from + suc n = omega arith in
    found-from from all (suc n) slots whole (subst P up h) (λ place. ap (slot_at all) (let e : suc n + place ≡ n + suc place = omega arith in e) ∙ same (suc place))
found-from from all n (Some one ∷ slots) whole h same =
    let P : ℕ → Type 0 = λ m. Numbered m slots in
    let up : suc (from + n) ≡ from + suc n = omega arith in (
      ap (λ m. event_numbered m (waiting all)) (let e : one.order ≡ from + (n + 0) = omega (arith, h.0) in e) ∙ (found-slot from (n + 0) all whole ∙ ap (option_map scheduled_of) (same 0)),
      found-from from all (suc n) slots whole (subst P up h.1) (λ place. ap (slot_at all) (let e : suc n + place ≡ n + suc place = omega arith in e) ∙ same (suc place)),
    )

-- each that waits is found by its number
pub each-found : (n : ℕ) (slots : Slots) → Numbered n slots → IsFound (waiting slots)
each-found n slots h =
    let P : ℕ → Type 0 = λ m. Numbered m slots in
    found-from n slots 0 slots h (subst P (let e : n ≡ n + 0 = omega arith in e) h) (λ place. ap (slot_at slots) (let e : 0 + place ≡ place = omega arith in e))

-- Changes ----------------------------------------------------------------------------------------------------------

-- one event more
pub plan-more : (count : ℕ) (slots : Slots) (one : rust.Scheduled) → one.order ≡ count → plan_of (count + 1) (slots ++ Some one ∷ []) ≡ with_event one.due (queued_of one.what) (plan_of count slots)
plan-more count slots one is =
    let events : waiting (slots ++ Some one ∷ []) ≡ waiting slots ++ scheduled_of one ∷ [] = ap (map scheduled_of) (filter_map-append (λ one. one) slots (Some one ∷ [])) ∙ map-append scheduled_of (filter_map (λ one. one) slots) (one ∷ []) in
    ap (λ (all : List Scheduled). record { events = all; count = count + 1 }) (events ∙ ap (λ order. waiting slots ++ record { due = one.due; order = order; what = queued_of one.what } ∷ []) is)

pub last-more : (count : ℕ) (slots : Slots) (one : rust.Scheduled) → AreLast count slots → one.order ≡ count → AreLast (count + 1) (slots ++ Some one ∷ [])
last-more count slots one h is =
    let long : length (slots ++ Some one ∷ []) ≡ length slots + 1 = length-append slots (Some one ∷ []) in
    let from : (count + 1) - length (slots ++ Some one ∷ []) ≡ count - length slots = omega (arith, long, h.0) in
    let P : ℕ → Type 0 = λ n. Numbered n (slots ++ Some one ∷ []) in
    (omega (arith, long, h.0), subst P (sym from) (numbered-more (count - length slots) slots one h.1 (omega (arith, is, h.0))))

pub last-less : (count place : ℕ) (slots : Slots) → AreLast count slots → AreLast count (slice_set slots place None)
last-less count place slots h =
    let long : length (slice_set slots place None) ≡ length slots = length-set slots place None in
    let P : ℕ → Type 0 = λ n. Numbered n (slice_set slots place None) in
    (omega (arith, long, h.0), subst P (ap (λ n. count - n) (sym long)) (numbered-less (count - length slots) place slots h.1))

-- the first place is let go
pub last-rest : (count : ℕ) (slots : Slots) → AreLast count (None ∷ slots) → AreLast count slots
last-rest count slots h =
    let from : suc (count - suc (length slots)) ≡ count - length slots = omega (arith, h.0) in
    let P : ℕ → Type 0 = λ n. Numbered n slots in
    (omega (arith, h.0), subst P from h.1)

pub last-below : (count : ℕ) (slots : Slots) → AreLast count slots → Each (λ one. one.order < count) (waiting slots)
last-below count slots h =
    let P : ℕ → Type 0 = λ n. Each (λ one. one.order < n) (waiting slots) in
    let whole : (count - length slots) + length slots ≡ count = omega (arith, h.0) in
    subst P whole (below (count - length slots) slots h.1)

-- none has the order number
pub others-all : (order : ℕ) (events : List Scheduled) → event_numbered order events ≡ None → others order events ≡ events
others-all order [] none = refl
others-all order (one ∷ events) none = by (one.order == order) refl (others-all order events)
  where
    by : (t : Bool) → (one.order == order) ≡ t → (event_numbered order events ≡ None → others order events ≡ events) → others order (one ∷ events) ≡ one ∷ events
    by true e rest = absurd (none-some one (sym none ∙ ap (λ (met : Bool). cond met (Some one) (event_numbered order events)) e))
    by false e rest = ap (λ (met : Bool). cond (not met) (one ∷ others order events) (others order events)) e
        ∙ ap (λ rest. one ∷ rest) (rest (sym (ap (λ (met : Bool). cond met (Some one) (event_numbered order events)) e) ∙ none))

-- one event less
pub waiting-less : (n place : ℕ) (slots : Slots) → Numbered n slots → waiting (slice_set slots place None) ≡ others (n + place) (waiting slots)
waiting-less n place [] h = refl
waiting-less n zero (None ∷ slots) h = sym (others-all (n + 0) (waiting slots) (not-under (suc n) (n + 0) slots h (omega arith)))
waiting-less n zero (Some one ∷ slots) h =
    let e : one.order ≡ n + 0 = omega (arith, h.0) in
    sym (ap (λ (met : Bool). cond (not met) (scheduled_of one ∷ others (n + 0) (waiting slots)) (others (n + 0) (waiting slots))) (ap (λ m. one.order == m) (sym e) ∙ eqb-refl one.order)
    ∙ others-all (n + 0) (waiting slots) (not-under (suc n) (n + 0) slots h.1 (omega arith)))
waiting-less n (suc place) (None ∷ slots) h =
    let e : suc n + place ≡ n + suc place = omega arith in
    waiting-less (suc n) place slots h ∙ ap (λ m. others m (waiting slots)) e
waiting-less n (suc place) (Some one ∷ slots) h =
    let e : suc n + place ≡ n + suc place = omega arith in
    ap (λ rest. scheduled_of one ∷ rest) (waiting-less (suc n) place slots h.1 ∙ ap (λ m. others m (waiting slots)) e)
    ∙ sym (ap (λ (met : Bool). cond (not met) (scheduled_of one ∷ others (n + suc place) (waiting slots)) (others (n + suc place) (waiting slots))) (eqb-apart one.order (n + suc place) (λ same. omega (arith, same, h.0))))

-- The index --------------------------------------------------------------------------------------------------------

stays : (z : ℤ) → z ≤ℤ pos (2 ^ 63 - 1) → int_min (z +ℤ pos 0) (pos (2 ^ 63 - 1)) ≡ z
stays z le = grind (arith, ints, nat_tests)

least : (z : ℤ) → int_min z (pos (2 ^ 63 - 1)) ≤ℤ pos (2 ^ 63 - 1)
least z = grind (arith, ints, nat_tests)

-- no moment is behind the last one
pub moment-least : (since : Moment) (span : Span) → (moment_after since span).0 ≤ℤ pos (2 ^ 63 - 1)
unfolding moment_after
moment-least since span = least (since.0 +ℤ int_max span.0 (pos 0))

moment-same : (due : Moment) → due.0 ≤ℤ pos (2 ^ 63 - 1) → moment_after due (record { 0 = pos 0 }) ≡ due
unfolding moment_after
moment-same due le = ap (λ (z : ℤ). record { 0 = z }) (stays due.0 le)

-- a key that is not there
key-absent : (order : ℕ) (events : List Scheduled) → Each (λ one. one.order < order) events → entry_at (key_for order) (map entry_for events) ≡ None
unfolding entry_at same
key-absent order [] h = refl
key-absent order (one ∷ events) h =
    ap (λ (met : Bool). cond (met && true) (Some (entry_for one)) (find (λ entry. same_key (key_for order) entry.key) (map entry_for events))) (eqb-apart order one.order (λ e. omega (arith, e, h.0)))
    ∙ key-absent order events h.1

-- one event more
pub index-more : (plan : Plan) (due : Moment) (what : Queued) → Each (λ one. one.order < plan.count) plan.events → due.0 ≤ℤ pos (2 ^ 63 - 1)
    → insert due (key_for plan.count) (plain.Bool true) (index_of plan) ≡ index_of (with_event due what plan)
index-more plan due what h le =
    let one : Scheduled = record { due = due; order = plan.count; what = what } in
    let new : Moment → Entry = λ at. record { order = plan.count; key = key_for plan.count; value = plain.Bool true; since = due; due = Some at } in
    ap (assign_at due (key_for plan.count) (plain.Bool true) (index_of plan)) (key-absent plan.count plan.events h)
    ∙ ap (λ (entries : List Entry). record { expiry = (index_of plan).expiry; insertions = plan.count + 1; entries = entries })
    (ap (λ at. map entry_for plan.events ++ new at ∷ []) (moment-same due le) ∙ sym (map-append entry_for plan.events (one ∷ [])))

numbered-made : (order : ℕ) (events : List Scheduled) → entry_numbered order (map entry_for events) ≡ option_map entry_for (event_numbered order events)
unfolding entry_numbered
numbered-made order [] = refl
numbered-made order (one ∷ events) =
    ap (λ (met : Bool). cond met (Some (entry_for one)) (find (λ entry. order == entry.order) (map entry_for events))) (eqb-sym order one.order)
    ∙ elim (one.order == order) as (λ met. cond met (Some (entry_for one)) (find (λ entry. order == entry.order) (map entry_for events)) ≡ option_map entry_for (cond met (Some one) (event_numbered order events))) [
      | true ↦ refl
      | false ↦ numbered-made order events
    ]

without-made : (order : ℕ) (events : List Scheduled) → without order (map entry_for events) ≡ map entry_for (others order events)
unfolding without
without-made order [] = refl
without-made order (one ∷ events) =
    ap (λ (met : Bool). cond (not met) (entry_for one ∷ filter (λ entry. not (order == entry.order)) (map entry_for events)) (filter (λ entry. not (order == entry.order)) (map entry_for events))) (eqb-sym order one.order)
    ∙ elim (one.order == order) as (λ met. cond (not met) (entry_for one ∷ filter (λ entry. not (order == entry.order)) (map entry_for events)) (filter (λ entry. not (order == entry.order)) (map entry_for events)) ≡ map entry_for (cond (not met) (one ∷ others order events) (others order events))) [
      | true ↦ without-made order events
      | false ↦ ap (λ rest. entry_for one ∷ rest) (without-made order events)
    ]

-- what is found has the order number
pub order-found : (order : ℕ) (events : List Scheduled) (one : Scheduled) → event_numbered order events ≡ Some one → one.order ≡ order
order-found order [] one is = cc
order-found order (first ∷ events) one is = by (first.order == order) refl (order-found order events one)
  where
    by : (t : Bool) → (first.order == order) ≡ t → (event_numbered order events ≡ Some one → one.order ≡ order) → one.order ≡ order
    by true e rest = ap (λ (o : Scheduled). o.order) (sym (same_Some _ _ (sym (ap (λ (met : Bool). cond met (Some first) (event_numbered order events)) e) ∙ is))) ∙ (Decides-eqb first.order order).0 e
    by false e rest = rest (sym (ap (λ (met : Bool). cond met (Some first) (event_numbered order events)) e) ∙ is)

-- one event less
pub index-less : (plan : Plan) (order : ℕ) → expire order (record { 0 = pos 0 }) (index_of plan) ≡ index_of (record plan { events = others order plan.events })
index-less plan order = ap (expire_at (record { 0 = pos 0 }) (index_of plan)) (numbered-made order plan.events) ∙ by (event_numbered order plan.events) refl
  where
    by : (found : Option Scheduled) → event_numbered order plan.events ≡ found
        → expire_at (record { 0 = pos 0 }) (index_of plan) (option_map entry_for found) ≡ index_of (record plan { events = others order plan.events })
    by None is = ap (λ (events : List Scheduled). index_of (record plan { events = events })) (sym (others-all order plan.events is))
    by (Some one) is =
        ap (λ n. with_entries (without n (map entry_for plan.events)) (index_of plan)) (order-found order plan.events one is)
        ∙ ap (λ entries. with_entries entries (index_of plan)) (without-made order plan.events)

pub kept-less : (count order : ℕ) (old new : Slots) (dues now : Table) → AreLast count old × (dues ≡ index_of (plan_of count old)) → AreLast count new → waiting new ≡ others order (waiting old)
    → now ≡ expire order (record { 0 = pos 0 }) dues → AreLast count new × (now ≡ index_of (plan_of count new))
kept-less count order old new dues now kept last left is =
    (last, is ∙ (ap (expire order (record { 0 = pos 0 })) kept.1 ∙ (index-less (plan_of count old) order ∙ ap (λ (events : List Scheduled). index_of (record { events = events; count = count })) (sym left))))

-- the index and the events with one more
pub kept-more : (count : ℕ) (slots : Slots) (one : rust.Scheduled) (dues now : Table) → AreLast count slots × (dues ≡ index_of (plan_of count slots)) → one.order ≡ count → one.due.0 ≤ℤ pos (2 ^ 63 - 1)
    → now ≡ insert one.due (key_for count) (plain.Bool true) dues → AreLast (count + 1) (slots ++ Some one ∷ []) × (now ≡ index_of (plan_of (count + 1) (slots ++ Some one ∷ [])))
kept-more count slots one dues now kept order le is = (
  last-more count slots one kept.0 order,
  is ∙ (ap (insert one.due (key_for count) (plain.Bool true)) kept.1
      ∙ (index-more (plan_of count slots) one.due (queued_of one.what) (last-below count slots kept.0) le ∙ ap index_of (sym (plan-more count slots one order)))),
)
