-- Handlers by their numbers.
use Rattle.std.proofs.Common.{◌≡◌, ◌==◌, ℕ, zero, suc, ◌+◌, ◌<◌, ◌≤◌, get_or, List, [], ◌∷◌, ◌++◌, length, map, filter, Bool, true, false, cond, Some, refl, sym, ap, subst, ◌∙◌, arith, append-nil, append_assoc, true≢false}
use Rattle.std.specs.declared.alloc.Global.{Global}
use Rattle.std.specs.declared.vec.Vec.{Vec}
use Rattle.std.specs.Prelude.{ℤ, All, is_some, slice_get, slice_set, if◌then◌else◌}
use Rattle.zk_base.specs.declared.numbers.HandlerNo.{HandlerNo}
use Rattle.std.proofs.lemmas.Bool.Decides.{Decides-eqb}
use Rattle.std.proofs.lemmas.Option.{slice_get_past, slice_get_read}
use Rattle.zk_base.specs.declared.numbers.EventNo.{EventNo}
use Rattle.zk_table.proofs.SlotLemmas.{eqb-refl}
use Rattle.zk_typed.specs.Dispatch.{handlers_of}
use Rattle.zk_typed.specs.Meaning.{in_order}
use Rattle.zk_typed.specs.Program.{Program, Handler}
use Rattle.zk_lower.specs.Code.{HandlerCode, GlobalCode}
use Rattle.zk_machine.specs.Handling.{numbered, handlers_for, numbers_for, numbers_in, numbers_at, expiring_from}
use Rattle.zk_lower.specs.Lowering.{lowered, placed, handler_ops, handler_found}
use Rattle.zk_lower.proofs.Priorities.{Each, each_in_order, each_some, order_seen}

-- one more behind the others
pub numbered-more : {A : Type 0} (n : ℕ) (xs : List A) (x : A) → numbered n (xs ++ x ∷ []) ≡ numbered n xs ++ (n + length xs, x) ∷ []
numbered-more n [] x = let e : n ≡ n + 0 = omega arith in ap (λ m. (m, x) ∷ []) e
numbered-more n (y ∷ xs) x =
    let e : (n + 1) + length xs ≡ n + suc (length xs) = omega arith in
    ap (λ others. (n, y) ∷ others) (numbered-more (n + 1) xs x ∙ ap (λ m. numbered (n + 1) xs ++ (m, x) ∷ []) e)

filter-made : {A B : Type 0} (make : A → B) (test : B → Bool) (xs : List A) → map make (filter (λ x. test (make x)) xs) ≡ filter test (map make xs)
filter-made make test [] = refl
filter-made make test (x ∷ xs) = elim (test (make x)) as (λ (met : Bool). map make (cond met (x ∷ filter (λ x. test (make x)) xs) (filter (λ x. test (make x)) xs)) ≡ cond met (make x ∷ filter test (map make xs)) (filter test (map make xs))) [
  | true ↦ ap (λ others. make x ∷ others) (filter-made make test xs)
  | false ↦ filter-made make test xs
]

pub map-twice : {A B C : Type 0} (f : A → B) (g : B → C) (xs : List A) → map g (map f xs) ≡ map (λ x. g (f x)) xs
map-twice f g [] = refl
map-twice f g (x ∷ xs) = ap (λ others. g (f x) ∷ others) (map-twice f g xs)

-- What decides when a handler runs: its number, its event and its priority.
abbrev Keys : Type 0
Keys = ℕ × (EventNo × ℤ)

abbrev keys_found : ℕ × HandlerCode → Keys
keys_found one = (one.0, (one.1.event, one.1.priority))

abbrev keys_of : ℕ × Handler → Keys
keys_of one = (one.0, (one.1.event, one.1.priority))

same_keys : (n at : ℕ) (handlers : List Handler) → map keys_found (numbered n (placed handler_ops handler_found at handlers)) ≡ map keys_of (numbered n handlers)
same_keys n at [] = refl
same_keys n at (one ∷ others) = ap (λ list. (n, (one.event, one.priority)) ∷ list) (same_keys (n + 1) _ others)

-- the numbers of what is made of keys are those of the keys
by_keys : {A : Type 0} (key : ℕ × A → Keys) (event : EventNo) (xs : List (ℕ × A)) → ((x : ℕ × A) → (key x).0 ≡ x.0)
    → map (λ one. one.0) (in_order (λ one. (key one).1.1) (filter (λ one. (key one).1.0.0 == event.0) xs)) ≡ map (λ one. one.0) (in_order (λ one. one.1.1) (filter (λ one. one.1.0.0 == event.0) (map key xs)))
by_keys {A = A} key event xs same =
    sym (map-same (in_order (λ one. (key one).1.1) (filter (λ one. (key one).1.0.0 == event.0) xs)))
    ∙ (ap (map (λ one. one.0)) (order_seen (λ (one : Keys). one.1.1) key (filter (λ one. (key one).1.0.0 == event.0) xs))
    ∙ ap (λ list. map (λ (one : Keys). one.0) (in_order (λ one. one.1.1) list)) (filter-made key (λ one. one.1.0.0 == event.0) xs))
  where
    map-same : (list : List (ℕ × A)) → map (λ (one : Keys). one.0) (map key list) ≡ map (λ one. one.0) list
    map-same [] = refl
    map-same (x ∷ list) = ap (λ n. n ∷ map (λ (one : Keys). one.0) (map key list)) (same x) ∙ ap (λ others. x.0 ∷ others) (map-same list)

-- the handlers of an event with their numbers
abbrev listed : EventNo → List Handler → List (ℕ × Handler)
listed event handlers = in_order (λ one. one.1.priority) (filter (λ one. one.1.event.0 == event.0) (numbered 0 handlers))

numbers_are : (event : EventNo) (at : ℕ) (handlers : List Handler) → numbers_for event (placed handler_ops handler_found at handlers) ≡ map (λ one. one.0) (listed event handlers)
numbers_are event at handlers =
    by_keys keys_found event (numbered 0 (placed handler_ops handler_found at handlers)) (λ x. refl)
    ∙ (ap (λ list. map (λ (one : Keys). one.0) (in_order (λ one. one.1.1) (filter (λ one. one.1.0.0 == event.0) list))) (same_keys 0 at handlers)
    ∙ sym (by_keys keys_of event (numbered 0 handlers) (λ x. refl)))

-- each is found by its number
abbrev Finds : {A : Type 0} → List A → ℕ × A → Type 0
Finds all one = slice_get all one.0 ≡ Some one.1

finds_from : {A : Type 0} (all : List A) (n : ℕ) (xs : List A) → ((i : ℕ) → slice_get all (n + i) ≡ slice_get xs i) → Each (Finds all) (numbered n xs)
finds_from all n [] same = tt
finds_from all n (x ∷ xs) same = (
  ap (slice_get all) (let e : n ≡ n + 0 = omega arith in e) ∙ same 0,
  finds_from all (n + 1) xs (λ i. ap (slice_get all) (let e : (n + 1) + i ≡ n + suc i = omega arith in e) ∙ same (suc i)),
)

pub finds : {A : Type 0} (all : List A) → Each (Finds all) (numbered 0 all)
finds all = finds_from all 0 all (λ i. ap (slice_get all) (let e : 0 + i ≡ i = omega arith in e))

found-by : {A : Type 0} (all : List A) (list : List (ℕ × A)) → Each (Finds all) list → map (λ n. slice_get all n) (map (λ one. one.0) list) ≡ map Some (map (λ one. one.1) list)
found-by all [] h = refl
found-by {A = A} all (one ∷ list) h = ap (λ first. first ∷ map (λ n. slice_get all n) (map (λ (one : ℕ × A). one.0) list)) h.0 ∙ ap (λ others. Some one.1 ∷ others) (found-by all list h.1)

without_numbers : {A : Type 0} (n : ℕ) (xs : List A) → map (λ (one : ℕ × A). one.1) (numbered n xs) ≡ xs
without_numbers n [] = refl
without_numbers n (x ∷ xs) = ap (λ others. x ∷ others) (without_numbers (n + 1) xs)

listed_are : (event : EventNo) (handlers : List Handler) → map (λ one. one.1) (listed event handlers) ≡ in_order (λ one. one.priority) (filter (λ one. one.event.0 == event.0) handlers)
listed_are event handlers =
    order_seen (λ (one : Handler). one.priority) (λ (one : ℕ × Handler). one.1) (filter (λ one. one.1.event.0 == event.0) (numbered 0 handlers))
    ∙ ap (in_order (λ one. one.priority)) (filter-made (λ (one : ℕ × Handler). one.1) (λ one. one.event.0 == event.0) (numbered 0 handlers) ∙ ap (filter (λ one. one.event.0 == event.0)) (without_numbers 0 handlers))

all_listed : (event : EventNo) (handlers : List Handler) → Each (Finds handlers) (listed event handlers)
all_listed event handlers =
    each_in_order (λ (one : ℕ × Handler). one.1.priority) (Finds handlers) (filter (λ one. one.1.event.0 == event.0) (numbered 0 handlers))
    (each_some (λ (one : ℕ × Handler). one.1.priority) (Finds handlers) (λ one. one.1.event.0 == event.0) (numbered 0 handlers) (finds handlers))

-- the handlers of those numbers are the handlers of the event
pub handlers_found : (program : Program) (event : EventNo) → map (λ n. slice_get program.handlers n) (numbers_for event (lowered program).handlers) ≡ map Some (handlers_of program event)
handlers_found program event =
    ap (map (λ n. slice_get program.handlers n)) (numbers_are event 0 program.handlers)
    ∙ (found-by program.handlers (listed event program.handlers) (all_listed event program.handlers)
    ∙ ap (map Some) (listed_are event program.handlers))

-- each number is that of a handler
is_within : {A : Type 0} (all : List A) (n : ℕ) (x : A) → slice_get all n ≡ Some x → n < length all
is_within [] n x is = cc
is_within (y ∷ all) zero x is = omega arith
is_within (y ∷ all) (suc n) x is = let h : n < length all = is_within all n x is in omega (arith, h)

all_within : {A : Type 0} (all : List A) (list : List (ℕ × A)) → Each (Finds all) list → Each (λ n. n < length all) (map (λ one. one.0) list)
all_within all [] h = tt
all_within all (one ∷ list) h = (is_within all one.0 one.1 h.0, all_within all list h.1)

pub numbers_within : (event : EventNo) (handlers : List HandlerCode) → Each (λ n. n < length handlers) (numbers_for event handlers)
numbers_within event handlers = all_within handlers (handlers_for event handlers)
    (each_in_order (λ (one : ℕ × HandlerCode). one.1.priority) (Finds handlers) (filter (λ one. one.1.event.0 == event.0) (numbered 0 handlers))
    (each_some (λ (one : ℕ × HandlerCode). one.1.priority) (Finds handlers) (λ one. one.1.event.0 == event.0) (numbered 0 handlers) (finds handlers)))

-- one global more
pub expiring-more : (n : ℕ) (globals : List GlobalCode) (one : GlobalCode) → expiring_from n (globals ++ one ∷ []) ≡ expiring_from n globals ++ (if is_some one.expiry then (n + length globals) ∷ [] else [])
expiring-more n [] one = let e : n ≡ n + 0 = omega arith in append-nil _ ∙ ap (λ m. if is_some one.expiry then m ∷ [] else []) e
expiring-more n (other ∷ globals) one =
    let e : (n + 1) + length globals ≡ n + suc (length globals) = omega arith in
    let first : List ℕ = if is_some other.expiry then n ∷ [] else [] in
    ap (λ others. first ++ others) (expiring-more (n + 1) globals one ∙ ap (λ m. expiring_from (n + 1) globals ++ (if is_some one.expiry then m ∷ [] else [])) e)
    ∙ sym (append_assoc first (expiring_from (n + 1) globals) (if is_some one.expiry then (n + suc (length globals)) ∷ [] else []))

-- Lists by event ---------------------------------------------------------------------------------------------------

-- an empty list behind the others holds no number
pub numbers-widened : (lists : List (Vec HandlerNo Global)) (more : Vec HandlerNo Global) (event : ℕ) → more.items ≡ [] → numbers_at (lists ++ more ∷ []) event ≡ numbers_at lists event
numbers-widened [] more zero none = ap (map (λ number. number.0)) none
numbers-widened [] more (suc event) none = refl
numbers-widened (list ∷ lists) more zero none = refl
numbers-widened (list ∷ lists) more (suc event) none = numbers-widened lists more event none

-- behind the last list there are none
pub numbers-past : (lists : List (Vec HandlerNo Global)) (event : ℕ) → length lists ≤ event → numbers_at lists event ≡ []
numbers-past lists event past = ap numbers_in (slice_get_past lists event past)

pub numbers-there : (lists : List (Vec HandlerNo Global)) (event : ℕ) (list : Vec HandlerNo Global) → event < length lists → list ≡ get_or lists event list → numbers_at lists event ≡ map (λ one. one.0) list.items
numbers-there lists event list within is = ap numbers_in (slice_get_read lists (length lists) event list refl within is)

set-there : {A : Type 0} (xs : List A) (n : ℕ) (x : A) → n < length xs → slice_get (slice_set xs n x) n ≡ Some x
set-there [] n x within = absurd (omega (arith, within))
set-there (y ∷ xs) zero x within = refl
set-there (y ∷ xs) (suc n) x within = set-there xs n x (omega (arith, within))

set-apart : {A : Type 0} (xs : List A) (n m : ℕ) (x : A) → (n ≡ m → ⊥) → slice_get (slice_set xs n x) m ≡ slice_get xs m
set-apart [] n m x apart = refl
set-apart (y ∷ xs) zero zero x apart = absurd (apart refl)
set-apart (y ∷ xs) zero (suc m) x apart = refl
set-apart (y ∷ xs) (suc n) zero x apart = refl
set-apart (y ∷ xs) (suc n) (suc m) x apart = set-apart xs n m x (λ same. apart (ap suc same))

-- the list of an event is changed, and no other
pub numbers-put : (lists : List (Vec HandlerNo Global)) (place : ℕ) (list : Vec HandlerNo Global) (number event : ℕ) → place < length lists → map (λ one. one.0) list.items ≡ numbers_at lists place ++ number ∷ []
    → numbers_at (slice_set lists place list) event ≡ (if place == event then numbers_at lists event ++ number ∷ [] else numbers_at lists event)
numbers-put lists place list number event within is = by (place == event) refl
  where
    by : (t : Bool) → (place == event) ≡ t → numbers_at (slice_set lists place list) event ≡ (if place == event then numbers_at lists event ++ number ∷ [] else numbers_at lists event)
    by true e =
        let same : place ≡ event = (Decides-eqb place event).0 e in
        ap (numbers_at (slice_set lists place list)) (sym same)
        ∙ (ap numbers_in (set-there lists place list within)
        ∙ (is ∙ (ap (λ n. numbers_at lists n ++ number ∷ []) same
        ∙ sym (ap (λ (t : Bool). if t then numbers_at lists event ++ number ∷ [] else numbers_at lists event) e))))
    by false e =
        ap numbers_in (set-apart lists place event list (λ same. true≢false (sym (sym (ap (λ n. place == n) same) ∙ eqb-refl place) ∙ e)))
        ∙ sym (ap (λ (t : Bool). if t then numbers_at lists event ++ number ∷ [] else numbers_at lists event) e)

-- the numbers of those that stand under an event, of which there is one more
abbrev pub numbers_under : ℕ → List (ℕ × HandlerCode) → List ℕ
numbers_under event list = map (λ one. one.0) (filter (λ one. one.1.event.0 == event) list)

pub under-more : (event : ℕ) (list : List (ℕ × HandlerCode)) (one : ℕ × HandlerCode)
    → numbers_under event (list ++ one ∷ []) ≡ (if one.1.event.0 == event then numbers_under event list ++ one.0 ∷ [] else numbers_under event list)
under-more event [] one = elim (one.1.event.0 == event) as (λ met. map (λ (o : ℕ × HandlerCode). o.0) (cond met (one ∷ []) []) ≡ cond met (one.0 ∷ []) []) [ true ↦ refl | false ↦ refl ]
under-more event (other ∷ list) one =
    let more = under-more event list one in
    elim (other.1.event.0 == event) as (λ there. map (λ (o : ℕ × HandlerCode). o.0) (cond there (other ∷ filter (λ o. o.1.event.0 == event) (list ++ one ∷ [])) (filter (λ o. o.1.event.0 == event) (list ++ one ∷ [])))
    ≡ cond (one.1.event.0 == event) (map (λ (o : ℕ × HandlerCode). o.0) (cond there (other ∷ filter (λ o. o.1.event.0 == event) list) (filter (λ o. o.1.event.0 == event) list)) ++ one.0 ∷ [])
    (map (λ (o : ℕ × HandlerCode). o.0) (cond there (other ∷ filter (λ o. o.1.event.0 == event) list) (filter (λ o. o.1.event.0 == event) list)))) [
      | true ↦ ap (λ others. other.0 ∷ others) more ∙ elim (one.1.event.0 == event) as (λ met. other.0 ∷ cond met (numbers_under event list ++ one.0 ∷ []) (numbers_under event list)
          ≡ cond met ((other.0 ∷ numbers_under event list) ++ one.0 ∷ []) (other.0 ∷ numbers_under event list)) [ true ↦ refl | false ↦ refl ]
      | false ↦ more
    ]

-- what holds of each number holds of each of what has the numbers
pub all-made : {A B : Type 0} (make : A → B) (P : B → Type 0) (xs : List A) (ys : List B) → map make xs ≡ ys → Each P ys → All (λ x. P (make x)) xs
all-made {A = A} {B = B} make P xs ys same h = at xs (let Q : List B → Type 0 = Each P in subst Q (sym same) h)
  where
    at : (xs : List A) → Each P (map make xs) → All (λ x. P (make x)) xs
    at [] h k d within = absurd (omega (arith, within))
    at (x ∷ xs) h zero d within = h.0
    at (x ∷ xs) h (suc k) d within = at xs h.1 k d (omega (arith, within))
