-- Where names stand in a list, when one is added at its end.
use Rattle.std.proofs.Common.{◌≡◌, ℕ, zero, suc, Bool, true, false, ◌&&◌, ◌||◌, List, [], ◌∷◌, ◌++◌, length, Option, Some, None, is_some, refl, ap, sym, ◌∙◌, if◌then◌else◌, cond, find, slice_get, map, Bor}
use Rattle.std.specs.List.{list_any}
use Rattle.std.specs.Option.{option_map, option_and_then, option_copied}
use Rattle.std.specs.Str.{bytes_eq}
use Rattle.zk_scope.specs.Same.{same_bytes}
use Rattle.zk_typed.specs.Names.{Declared, find_whole, is_open}
use Rattle.zk_scope.specs.declared.index.Slot.{Slot}
use Rattle.zk_scope.specs.Indexing.{first_place, or_else, shown, slot_in, with_place}

later : (a : Option ℕ) (b : Bool) (n : ℕ) → option_map suc (or_else a (shown b n)) ≡ or_else (option_map suc a) (shown b (suc n))
later (Some place) b n = refl
later None true n = refl
later None false n = refl

first_push-by : {A : Type 0} (p : A → Bool) (one : A) (others : List A) (y : A) (b : Bool) → p one ≡ b →
    first_place p (others ++ y ∷ []) ≡ or_else (first_place p others) (shown (p y) (length others)) →
    first_place p (one ∷ (others ++ y ∷ [])) ≡ or_else (first_place p (one ∷ others)) (shown (p y) (suc (length others)))
first_push-by p one others y true e h = rw e refl
first_push-by p one others y false e h = rw e (ap (option_map suc) h ∙ later (first_place p others) (p y) (length others))

first_alone : (b : Bool) → (if b then Some 0 else None) ≡ shown b 0
first_alone true = refl
first_alone false = refl

pub first_push : {A : Type 0} (p : A → Bool) (others : List A) (y : A) →
    first_place p (others ++ y ∷ []) ≡ or_else (first_place p others) (shown (p y) (length others))
first_push p [] y = first_alone (p y)
first_push p (one ∷ others) y = first_push-by p one others y (p one) refl (first_push p others y)

-- the same tests find the same place
same_by : {A : Type 0} (p q : A → Bool) (one : A) (others : List A) → p one ≡ q one → first_place p others ≡ first_place q others → first_place p (one ∷ others) ≡ first_place q (one ∷ others)
same_by p q one others e h = rw (e, h) refl

pub same_first : {A : Type 0} (p q : A → Bool) → ((one : A) → p one ≡ q one) → (names : List A) → first_place p names ≡ first_place q names
same_first p q e [] = refl
same_first p q e (one ∷ others) = same_by p q one others (e one) (same_first p q e others)

no_more : (a : Option ℕ) → option_map suc a ≡ None → a ≡ None
no_more None h = refl
no_more (Some place) h = cc

absurd_place : {P : Type 0} (place : ℕ) → Some place ≡ None → P
absurd_place place h = cc

-- where none passes, none passes a narrower test
narrow_by : {A : Type 0} (p q : A → Bool) (one : A) (others : List A) (b : Bool) → p one ≡ b → (p one ≡ false → q one ≡ false) →
    (first_place p others ≡ None → first_place q others ≡ None) → first_place p (one ∷ others) ≡ None → first_place q (one ∷ others) ≡ None
narrow_by p q one others true e narrow h none = let g : Some 0 ≡ None = rw e at none in absurd_place 0 g
narrow_by p q one others false e narrow h none =
    let g : option_map suc (first_place p others) ≡ None = rw e at none in
    rw (narrow e, h (no_more _ g)) refl

pub none_narrower : {A : Type 0} (p q : A → Bool) → ((one : A) → p one ≡ false → q one ≡ false) → (names : List A) → first_place p names ≡ None → first_place q names ≡ None
none_narrower p q narrow [] none = refl
none_narrower p q narrow (one ∷ others) none = narrow_by p q one others (p one) refl (narrow one) (none_narrower p q narrow others) none

pub or_none : (a : Option ℕ) → or_else a None ≡ a
or_none None = refl
or_none (Some place) = refl

combined : (first exported : Option ℕ) (same is_exported : Bool) (place : ℕ) → (first ≡ None → exported ≡ None) →
    option_map (λ at. record { first = at; exported = or_else exported (shown (same && is_exported) place) }) (or_else first (shown same place)) ≡
    (if same then Some (with_place (option_map (λ at. record { first = at; exported = exported }) first) is_exported place) else option_map (λ at. record { first = at; exported = exported }) first)
combined None exported false is_exported place none = refl
combined (Some at) exported false is_exported place none = ap (λ (x : Option ℕ). Some (record { first = at; exported = x })) (or_none exported)
combined None exported true is_exported place none =
    let gone : exported ≡ None = none refl in
    ap (λ (x : Option ℕ). Some (record { first = place; exported = or_else x (shown is_exported place) })) gone
combined (Some at) exported true is_exported place none = refl

both_fail : (a b : Bool) → a ≡ false → a && b ≡ false
both_fail a b e = rw e refl

-- the slot of a name, once a name is added
pub slot_push : (names : List Declared) (one : Declared) (name : List ℕ) →
    slot_in (names ++ one ∷ []) name ≡ (if bytes_eq one.name name then Some (with_place (slot_in names name) one.exported (length names)) else slot_in names name)
slot_push names one name =
    let same : Declared → Bool = λ other. bytes_eq other.name name in
    let seen : Declared → Bool = λ other. bytes_eq other.name name && other.exported in
    ap (λ (x : Option ℕ). option_map (λ at. record { first = at; exported = x }) (first_place same (names ++ one ∷ []))) (first_push seen names one) ∙
    ap (option_map (λ at. record { first = at; exported = or_else (first_place seen names) (shown (seen one) (length names)) })) (first_push same names one) ∙
    combined (first_place same names) (first_place seen names) (same one) one.exported (length names)
    (none_narrower same seen (λ other. both_fail (bytes_eq other.name name) other.exported) names)

by_name : (names : List Declared) (old : List ℕ → Option Slot) (key q : List ℕ) (exported : Bool) (place : ℕ) → ((name : List ℕ) → old name ≡ slot_in names name) → place ≡ length names →
    (b : Bool) → bytes_eq key q ≡ b →
    cond b (Some (with_place (old key) exported place)) (old q) ≡ (if b then Some (with_place (slot_in names q) exported (length names)) else slot_in names q)
by_name names old key q exported place kept at true same =
    ap (λ (name : List ℕ). Some (with_place (old name) exported place)) (same_bytes key q same) ∙
    ap (λ (slot : Option Slot). Some (with_place slot exported place)) (kept q) ∙ ap (λ (n : ℕ). Some (with_place (slot_in names q) exported n)) at
by_name names old key q exported place kept at false same = kept q

-- a map that keeps the slots of names, once a name is added
pub added : (names : List Declared) (one : Declared) (old new : List ℕ → Option Slot) (slot : Slot) (key : List ℕ) (exported : Bool) (place : ℕ) →
    ((name : List ℕ) → old name ≡ slot_in names name) → ((name : List ℕ) → new name ≡ cond (bytes_eq key name) (Some slot) (old name)) →
    slot ≡ with_place (old key) exported place → place ≡ length names → one.name ≡ key → one.exported ≡ exported →
    (name : List ℕ) → new name ≡ slot_in (names ++ one ∷ []) name
added names one old new slot key exported place kept changed made at named seen q =
    changed q ∙ ap (λ (x : Slot). cond (bytes_eq key q) (Some x) (old q)) made ∙ by_name names old key q exported place kept at (bytes_eq key q) refl ∙
    ap (λ (x : List ℕ). if bytes_eq x q then Some (with_place (slot_in names q) exported (length names)) else slot_in names q) (sym named) ∙
    ap (λ (x : Bool). if bytes_eq one.name q then Some (with_place (slot_in names q) x (length names)) else slot_in names q) (sym seen) ∙
    sym (slot_push names one q)

or_true : (a b : Bool) → a && (b || true) ≡ a
or_true true true = refl
or_true true false = refl
or_true false b = refl

or_false : (a b : Bool) → a && (b || false) ≡ a && b
or_false true true = refl
or_false true false = refl
or_false false b = refl

-- what a slot tells of a name
abbrev pub slot_place : Bool → Slot → Option ℕ
slot_place true slot = Some slot.first
slot_place false slot = slot.exported

first_told : (first exported : Option ℕ) → option_and_then (slot_place true) (option_map (λ at. record { first = at; exported = exported }) first) ≡ first
first_told None exported = refl
first_told (Some at) exported = refl

shown_told : (first exported : Option ℕ) → (first ≡ None → exported ≡ None) → option_and_then (slot_place false) (option_map (λ at. record { first = at; exported = exported }) first) ≡ exported
shown_told None exported none = sym (none refl)
shown_told (Some at) exported none = refl

pub place_told : (names : List Declared) (name : List ℕ) (anywhere : Bool) →
    option_and_then (slot_place anywhere) (slot_in names name) ≡ first_place (λ (one : Declared). bytes_eq one.name name && (one.exported || anywhere)) names
place_told names name true =
    first_told _ _ ∙ sym (same_first (λ (one : Declared). bytes_eq one.name name && (one.exported || true)) (λ one. bytes_eq one.name name) (λ one. or_true (bytes_eq one.name name) one.exported) names)
place_told names name false =
    shown_told _ _ (none_narrower (λ (one : Declared). bytes_eq one.name name) (λ one. bytes_eq one.name name && one.exported) (λ one. both_fail (bytes_eq one.name name) one.exported) names) ∙
    sym (same_first (λ (one : Declared). bytes_eq one.name name && (one.exported || false)) (λ one. bytes_eq one.name name && one.exported) (λ one. or_false (bytes_eq one.name name) one.exported) names)

find_by : {A : Type 0} (p : A → Bool) (one : A) (others : List A) (b : Bool) → p one ≡ b → find p others ≡ option_and_then (slice_get others) (first_place p others) →
    find p (one ∷ others) ≡ option_and_then (slice_get (one ∷ others)) (first_place p (one ∷ others))
find_by p one others true e h = rw e refl
find_by p one others false e h = rw e (h ∙ past (first_place p others))
  where
    past : (a : Option ℕ) → option_and_then (slice_get others) a ≡ option_and_then (slice_get (one ∷ others)) (option_map suc a)
    past None = refl
    past (Some at) = refl

-- the first that passes is the one in its place
pub find_first : {A : Type 0} (p : A → Bool) (items : List A) → find p items ≡ option_and_then (slice_get items) (first_place p items)
find_first p [] = refl
find_first p (one ∷ others) = find_by p one others (p one) refl (find_first p others)

pub get_of_map : {A B : Type 0} (f : A → B) (items : List A) (at : ℕ) → slice_get (map f items) at ≡ option_map f (slice_get items at)
get_of_map f [] at = refl
get_of_map f (one ∷ others) zero = refl
get_of_map f (one ∷ others) (suc at) = get_of_map f others at

pub slot_told : (names : List Declared) (name : List ℕ) (anywhere : Bool) (slot : Option Slot) → slot ≡ slot_in names name →
    option_and_then (slot_place anywhere) slot ≡ first_place (λ (one : Declared). bytes_eq one.name name && (one.exported || anywhere)) names
slot_told names name anywhere slot e = ap (option_and_then (slot_place anywhere)) e ∙ place_told names name anywhere

-- what is found in its place is what a whole name means
pub whole_found : (names : List Declared) (from_module whole : List ℕ) (anywhere : Bool) (place : Option ℕ) → anywhere ≡ is_open from_module whole →
    place ≡ first_place (λ (one : Declared). bytes_eq one.name whole && (one.exported || anywhere)) names →
    option_and_then (slice_get names) place ≡ find_whole names from_module whole
whole_found names from_module whole anywhere place seen found =
    ap (option_and_then (slice_get names)) (found ∙ ap (λ (b : Bool). first_place (λ (one : Declared). bytes_eq one.name whole && (one.exported || b)) names) seen) ∙
    sym (find_first (λ (one : Declared). bytes_eq one.name whole && (one.exported || is_open from_module whole)) names)

-- a lent value, seen as what it stands for
pub seen_through : {A B : Type 0} (f : A → B) (lent : Option (Bor A)) → option_map (λ (one : Bor A). f one.now) lent ≡ option_map f (option_copied lent)
seen_through f None = refl
seen_through f (Some one) = refl

-- Names that are there ------------------------------------------------------------------------------------------------

some_by : {A : Type 0} (p : A → Bool) (one : A) (others : List A) (b : Bool) → p one ≡ b → is_some (first_place p others) ≡ list_any p others → is_some (first_place p (one ∷ others)) ≡ list_any p (one ∷ others)
some_by p one others true e h = rw e refl
some_by p one others false e h = rw e (behind (first_place p others) ∙ h)
  where
    behind : (a : Option ℕ) → is_some (option_map suc a) ≡ is_some a
    behind None = refl
    behind (Some at) = refl

some_any : {A : Type 0} (p : A → Bool) (items : List A) → is_some (first_place p items) ≡ list_any p items
some_any p [] = refl
some_any p (one ∷ others) = some_by p one others (p one) refl (some_any p others)

-- the first of a name, exported or not
pub named_anywhere : (names : List Declared) (whole : List ℕ) → first_place (λ (one : Declared). bytes_eq one.name whole && (one.exported || true)) names ≡ first_place (λ (one : Declared). bytes_eq one.name whole) names
named_anywhere names whole = same_first (λ (one : Declared). bytes_eq one.name whole && (one.exported || true)) (λ (one : Declared). bytes_eq one.name whole) (λ one. or_true (bytes_eq one.name whole) one.exported) names

-- a name stands in a list where its place is found, exported or not
pub has_place : (names : List Declared) (whole : List ℕ) → is_some (first_place (λ (one : Declared). bytes_eq one.name whole && (one.exported || true)) names) ≡ list_any (λ (one : Declared). bytes_eq one.name whole) names
has_place names whole =
    ap is_some (named_anywhere names whole) ∙ some_any (λ (one : Declared). bytes_eq one.name whole) names
