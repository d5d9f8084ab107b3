-- The instances of a capture, by their keys.
use Rattle.std.proofs.Common.{◌≡◌, ◌⊎◌, ℕ, ◌+◌, ◌==◌, Bool, true, false, cond, not, ◌||◌, List, [], ◌∷◌, ◌++◌, length, fold, Option, None, Some, refl, sym, ap, subst, ◌∙◌, arith, inl, inr, append_assoc, length-append}
use Rattle.std.specs.List.{list_any}
use Rattle.std.proofs.lemmas.Bool.{eqb-true, true≢false}
use Rattle.std.proofs.lemmas.Grind.{common_steps}
use Rattle.std.proofs.lemmas.List.Sums.{fold-append}
use Rattle.zk_conn.specs.declared.key.Key.{Key}
use Rattle.zk_conn.specs.Histories.{last_place, place_after}
use Rattle.zk_conn.specs.Segment.{same_key}
use Rattle.zk_conn.proofs.KeyLemmas.{same_key_is, same_key-refl}
use Rattle.zk_traffic.specs.Conversation.{Conversation}
use Rattle.zk_traffic.specs.Instances.{Instance, instances, instances_from, latest, number_of, begun, with_number}
use Rattle.zk_traffic.specs.Segments.{Segment}

-- none of the instances is of a key
abbrev pub NoneOf : Key → List Instance → Type 0
NoneOf key [] = Unit {0}
NoneOf key (i ∷ rest) = (same_key i.key key ≡ false) × NoneOf key rest

-- one of the instances is of a key, and it is this one
abbrev pub OneOf : Key → Instance → List Instance → Type 0
OneOf key x [] = ⊥
OneOf key x (i ∷ rest) = ((i ≡ x) × NoneOf key rest) ⊎ ((same_key i.key key ≡ false) × OneOf key x rest)

no_zero : (n : ℕ) → (0 + 1 + n == 0) ≡ false
no_zero n = grind (arith, common_steps)

place_case : (z m : Bool) (a b l L : ℕ) → L ≡ cond z (cond m (0 + 1) 0) (0 + 1 + l) → cond z (cond m (a + 1) b) (a + 1 + l) ≡ cond (L == 0) b (a + L)
place_case true true a b l L is = sym (ap (λ x. cond (x == 0) b (a + x)) is)
place_case true false a b l L is = sym (ap (λ x. cond (x == 0) b (a + x)) is)
place_case false m a b l L is =
    (let same : a + 1 + l ≡ a + (0 + 1 + l) = omega arith in same)
    ∙ sym (ap (λ x. cond (x == 0) b (a + x)) is ∙ ap (λ t. cond t b (a + (0 + 1 + l))) (no_zero l))

-- the last place of a key behind others, by its last place among those that follow
places_from : (key : Key) (a b : ℕ) (keys : List Key) → (fold (place_after key) (a, b) keys).1 ≡ cond (last_place key keys == 0) b (a + last_place key keys)
places_from key a b [] = refl
places_from key a b (k ∷ keys) =
    places_from key (a + 1) (cond (same_key k key) (a + 1) b) keys
    ∙ place_case (last_place key keys == 0) (same_key k key) a b (last_place key keys) (last_place key (k ∷ keys)) (places_from key (0 + 1) (cond (same_key k key) (0 + 1) 0) keys)

-- the last place of a key among others, by that among the later ones
pub last_place-cons : (key k : Key) (keys : List Key) → last_place key (k ∷ keys) ≡ cond (last_place key keys == 0) (cond (same_key k key) 1 0) (1 + last_place key keys)
last_place-cons key k keys = places_from key (0 + 1) (cond (same_key k key) (0 + 1) 0) keys

any_case : (z m any : Bool) (l L : ℕ) → any ≡ not z → L ≡ cond z (cond m 1 0) (1 + l) → (m || any) ≡ not (L == 0)
any_case true true any l L is place = sym (ap (λ x. not (x == 0)) place)
any_case true false any l L is place = is ∙ sym (ap (λ x. not (x == 0)) place)
any_case false true any l L is place = sym (ap (λ x. not (x == 0)) place ∙ ap not (no_zero l))
any_case false false any l L is place = is ∙ sym (ap (λ x. not (x == 0)) place ∙ ap not (no_zero l))

-- a key is among others exactly where it has a place there
pub any-place : (key : Key) (keys : List Key) → list_any (λ k. same_key k key) keys ≡ not (last_place key keys == 0)
any-place key [] = refl
any-place key (k ∷ keys) = any_case (last_place key keys == 0) (same_key k key) (list_any (λ o. same_key o key) keys) (last_place key keys) (last_place key (k ∷ keys)) (any-place key keys) (last_place-cons key k keys)

-- an instance of another key ahead of others
none_ahead : (key k : Key) (n : ℕ) (d : Option Conversation) (rest : List Instance) → same_key k key ≡ false → NoneOf key rest → NoneOf key (with_number n k d ++ rest)
none_ahead key k n None rest apart none = none
none_ahead key k n (Some d) rest apart none = (apart, none)

one_ahead : (key k : Key) (x : Instance) (n : ℕ) (d : Option Conversation) (rest : List Instance) → same_key k key ≡ false → OneOf key x rest → OneOf key x (with_number n k d ++ rest)
one_ahead key k x n None rest apart one = one
one_ahead key k x n (Some d) rest apart one = inr (apart, one)

of_head : (key k : Key) (n : ℕ) (again : Bool) (d : Option Conversation) (rest : List Instance) → same_key k key ≡ false → NoneOf key rest → NoneOf key (cond again [] (with_number n k d) ++ rest)
of_head key k n true d rest apart none = none
of_head key k n false d rest apart none = none_ahead key k n d rest apart none

one_of_head : (key k : Key) (x : Instance) (n : ℕ) (again : Bool) (d : Option Conversation) (rest : List Instance) → same_key k key ≡ false → OneOf key x rest → OneOf key x (cond again [] (with_number n k d) ++ rest)
one_of_head key k x n true d rest apart one = one
one_of_head key k x n false d rest apart one = one_ahead key k x n d rest apart one

or_parts : (a b : Bool) → (a || b) ≡ false → (a ≡ false) × (b ≡ false)
or_parts false b none = (refl, none)
or_parts true b none = absurd (true≢false none)

none_from : (limit : ℕ) (segments : List Segment) (key : Key) (n : ℕ) (keys : List Key) → list_any (λ k. same_key k key) keys ≡ false → NoneOf key (instances_from limit segments n keys)
none_from limit segments key n [] none = tt
none_from limit segments key n (k ∷ keys) none =
    let parts = or_parts (same_key k key) (list_any (λ o. same_key o key) keys) none in
    of_head key k n (list_any (λ o. same_key o k) keys) (latest limit k segments) (instances_from limit segments (n + 1) keys) parts.0 (none_from limit segments key (n + 1) keys parts.1)

no_any : (key : Key) (keys : List Key) → list_any (λ k. same_key k key) keys ≡ false → last_place key keys ≡ 0
no_any key keys none = eqb-true (last_place key keys) 0 (turned (last_place key keys == 0) (sym (any-place key keys) ∙ none))
  where
    turned : (b : Bool) → not b ≡ false → b ≡ true
    turned true e = refl
    turned false e = absurd (true≢false e)

some_any : (key : Key) (keys : List Key) → list_any (λ k. same_key k key) keys ≡ true → (last_place key keys == 0) ≡ false
some_any key keys some = turned (last_place key keys == 0) (sym (any-place key keys) ∙ some)
  where
    turned : (b : Bool) → not b ≡ true → b ≡ false
    turned true e = absurd (true≢false (sym e))
    turned false e = refl

one_from : (limit : ℕ) (segments : List Segment) (key : Key) (c : Conversation) (number n : ℕ) (keys : List Key) → latest limit key segments ≡ Some c
    → list_any (λ k. same_key k key) keys ≡ true → number + 1 ≡ n + last_place key keys
    → OneOf key (record { number = number; key = key; conversation = c }) (instances_from limit segments n keys)
one_from limit segments key c number n [] is none place = absurd (true≢false (sym none))
one_from limit segments key c number n (k ∷ keys) is some place =
    by_rest (list_any (λ o. same_key o key) keys) refl (λ again place. one_from limit segments key c number (n + 1) keys is again place)
  where
    x : Instance
    x = record { number = number; key = key; conversation = c }

    rest : List Instance
    rest = instances_from limit segments (n + 1) keys

    by_rest : (b : Bool) → list_any (λ o. same_key o key) keys ≡ b → (list_any (λ o. same_key o key) keys ≡ true → number + 1 ≡ n + 1 + last_place key keys → OneOf key x rest)
        → OneOf key x (cond (list_any (λ o. same_key o k) keys) [] (with_number n k (latest limit k segments)) ++ rest)
    by_rest true again more =
        let place_is : last_place key (k ∷ keys) ≡ 1 + last_place key keys = last_place-cons key k keys ∙ ap (λ z. cond z (cond (same_key k key) 1 0) (1 + last_place key keys)) (some_any key keys again) in
        let one = more again (omega (arith, place, place_is)) in
        by_head (same_key k key) refl one
      where
        by_head : (m : Bool) → same_key k key ≡ m → OneOf key x rest → OneOf key x (cond (list_any (λ o. same_key o k) keys) [] (with_number n k (latest limit k segments)) ++ rest)
        by_head true same one =
            subst (λ b. OneOf key x (cond b [] (with_number n k (latest limit k segments)) ++ rest)) (sym (ap (λ y. list_any (λ o. same_key o y) keys) (same_key_is k key same) ∙ again)) one
        by_head false apart one = one_of_head key k x n (list_any (λ o. same_key o k) keys) (latest limit k segments) rest apart one
    by_rest false last more =
        let same = here (same_key k key) (list_any (λ o. same_key o key) keys) some last in
        let key_is = same_key_is k key same in
        let place_is : last_place key (k ∷ keys) ≡ 1 = last_place-cons key k keys
        ∙ ap (λ l. cond (l == 0) (cond (same_key k key) 1 0) (1 + l)) (no_any key keys last) ∙ ap (λ m. cond m 1 0) same in
        subst (λ b. OneOf key x (cond b [] (with_number n k (latest limit k segments)) ++ rest)) (sym (ap (λ y. list_any (λ o. same_key o y) keys) key_is ∙ last))
        (subst (λ y. OneOf key x (with_number n y (latest limit y segments) ++ rest)) (sym key_is)
        (subst (λ d. OneOf key x (with_number n key d ++ rest)) (sym is)
        (inl (ap (λ m. record { number = m; key = key; conversation = c }) (let same_number : n ≡ number = omega (arith, place, place_is) in same_number), none_from limit segments key (n + 1) keys last))))
      where
        here : (a b : Bool) → (a || b) ≡ true → b ≡ false → a ≡ true
        here true b some none = refl
        here false b some none = absurd (true≢false (sym some ∙ none))

-- a key with a conversation has begun
pub one_of : (limit : ℕ) (segments : List Segment) (key : Key) (c : Conversation) → latest limit key segments ≡ Some c → (number_of limit key segments == 0) ≡ false
    → OneOf key (record { number = number_of limit key segments; key = key; conversation = c }) (instances limit segments)
unfolding instances
one_of limit segments key c is some =
    one_from limit segments key c (number_of limit key segments) 1 (begun limit segments) is (any-place key (begun limit segments) ∙ ap not some) (omega arith)

pub none_of : (limit : ℕ) (segments : List Segment) (key : Key) → (number_of limit key segments == 0) ≡ true → NoneOf key (instances limit segments)
unfolding instances
none_of limit segments key none = none_from limit segments key 1 (begun limit segments) (any-place key (begun limit segments) ∙ ap not none)

-- the last place of a key among others and those behind them
last_place-append : (key : Key) (a b : List Key) → last_place key (a ++ b) ≡ cond (last_place key b == 0) (last_place key a) (length a + last_place key b)
last_place-append key a b =
    ap (λ (p : ℕ × ℕ). p.1) (fold-append (place_after key) (0, 0) a b)
    ∙ places_from key (fold (place_after key) (0, 0) a).0 (fold (place_after key) (0, 0) a).1 b
    ∙ ap (λ n. cond (last_place key b == 0) (last_place key a) (n + last_place key b)) (counted 0 0 a ∙ (let same : 0 + length a ≡ length a = omega arith in same))
  where
    counted : (x y : ℕ) (keys : List Key) → (fold (place_after key) (x, y) keys).0 ≡ x + length keys
    counted x y [] = omega arith
    counted x y (k ∷ keys) = counted (x + 1) (cond (same_key k key) (x + 1) y) keys ∙ (let same : x + 1 + length keys ≡ x + length (k ∷ keys) = omega arith in same)

-- an instance is the latest conversation of its key, with its number
abbrev pub IsInstance : ℕ → List Segment → Instance → Type 0
IsInstance limit segments i = (latest limit i.key segments ≡ Some i.conversation) × (number_of limit i.key segments ≡ i.number)

abbrev pub EachIs : ℕ → List Segment → List Instance → Type 0
EachIs limit segments [] = Unit {0}
EachIs limit segments (i ∷ rest) = IsInstance limit segments i × EachIs limit segments rest

last_here : (before : List Key) (key : Key) (keys : List Key) → list_any (λ k. same_key k key) keys ≡ false → last_place key (before ++ key ∷ keys) ≡ length before + 1
last_here before key keys none =
    let here : last_place key (key ∷ keys) ≡ 1 = last_place-cons key key keys ∙ ap (λ l. cond (l == 0) (cond (same_key key key) 1 0) (1 + l)) (no_any key keys none) ∙ ap (λ m. cond m 1 0) (same_key-refl key) in
    last_place-append key before (key ∷ keys) ∙ ap (λ l. cond (l == 0) (last_place key before) (length before + l)) here

each_from : (limit : ℕ) (segments : List Segment) (before keys : List Key) → before ++ keys ≡ begun limit segments → EachIs limit segments (instances_from limit segments (length before + 1) keys)
each_from limit segments before [] is = tt
each_from limit segments before (key ∷ keys) is =
    by_again (list_any (λ other. same_key other key) keys) (latest limit key segments) refl refl
    (subst (λ n. EachIs limit segments (instances_from limit segments n keys)) (let same : length (before ++ key ∷ []) + 1 ≡ length before + 1 + 1 = omega (arith, length-append before (key ∷ [])) in same)
    (each_from limit segments (before ++ key ∷ []) keys (append_assoc before (key ∷ []) keys ∙ is)))
  where
    by_again : (b : Bool) (o : Option Conversation) → list_any (λ other. same_key other key) keys ≡ b → latest limit key segments ≡ o
        → EachIs limit segments (instances_from limit segments (length before + 1 + 1) keys)
        → EachIs limit segments (cond (list_any (λ other. same_key other key) keys) [] (with_number (length before + 1) key (latest limit key segments)) ++ instances_from limit segments (length before + 1 + 1) keys)
    by_again true o again latest_is more = subst (λ b. EachIs limit segments (cond b [] (with_number (length before + 1) key (latest limit key segments)) ++ instances_from limit segments (length before + 1 + 1) keys)) (sym again) more
    by_again false None again latest_is more =
        subst (λ b. EachIs limit segments (cond b [] (with_number (length before + 1) key (latest limit key segments)) ++ instances_from limit segments (length before + 1 + 1) keys)) (sym again)
        (subst (λ x. EachIs limit segments (with_number (length before + 1) key x ++ instances_from limit segments (length before + 1 + 1) keys)) (sym latest_is) more)
    by_again false (Some c) again latest_is more =
        subst (λ b. EachIs limit segments (cond b [] (with_number (length before + 1) key (latest limit key segments)) ++ instances_from limit segments (length before + 1 + 1) keys)) (sym again)
        (subst (λ x. EachIs limit segments (with_number (length before + 1) key x ++ instances_from limit segments (length before + 1 + 1) keys)) (sym latest_is)
        ((latest_is, ap (last_place key) (sym is) ∙ last_here before key keys again), more))

-- each of the instances is one
pub each_is : (limit : ℕ) (segments : List Segment) → EachIs limit segments (instances limit segments)
unfolding instances
each_is limit segments = each_from limit segments [] (begun limit segments) refl
