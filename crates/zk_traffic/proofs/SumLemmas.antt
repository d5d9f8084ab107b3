-- How many bytes the instances hold with one more segment.
use Rattle.std.proofs.Common.{◌≡◌, ◌⊎◌, ℕ, ◌+◌, ◌≤◌, ◌==◌, Bool, true, false, cond, not, ◌||◌, List, [], ◌∷◌, ◌++◌, length, fold, Option, None, Some, refl, sym, ap, ◌∙◌, arith, ⊎_elim}
use Rattle.std.specs.List.{list_any}
use Rattle.std.proofs.lemmas.Bool.{true≢false}
use Rattle.std.proofs.lemmas.List.Elements.{filter-append}
use Rattle.std.proofs.lemmas.List.Folds.{list_any-append}
use Rattle.std.proofs.lemmas.List.Sums.{fold-append, sum_by-append, sum_by-cons}
use Rattle.zk_conn.specs.declared.key.Key.{Key}
use Rattle.zk_conn.specs.Histories.{last_place, place_after}
use Rattle.zk_conn.specs.Segment.{same_key}
use Rattle.zk_conn.proofs.KeyLemmas.{same_key_is, same_key-refl}
use Rattle.zk_traffic.specs.Conversation.{Conversation}
use Rattle.zk_traffic.specs.Instances.{Instance, instances_from, latest, with_number}
use Rattle.zk_traffic.specs.Kept.{held_in, held_in_all}
use Rattle.zk_traffic.specs.Segments.{Segment}
use Rattle.zk_traffic.specs.Table.{left}
use Rattle.zk_traffic.proofs.InstanceLemmas.{last_place-cons}

held_append : (limit : ℕ) (gone : Key → Bool) (a b : List Instance) → held_in_all limit (left gone (a ++ b)) ≡ held_in_all limit (left gone a) + held_in_all limit (left gone b)
held_append limit gone a b =
    ap (held_in_all limit) (filter-append (λ (i : Instance). not (gone i.key)) a b) ∙ sum_by-append (λ (i : Instance). held_in limit i.conversation) (left gone a) (left gone b)

-- what the instance of a key holds, where it is left and the key doesn't begin again
abbrev weight : ℕ → (Key → Bool) → Bool → ℕ → Key → Option Conversation → ℕ
weight limit gone again number key o = held_in_all limit (left gone (cond again [] (with_number number key o)))

one_held : (limit : ℕ) (i : Instance) → held_in_all limit (i ∷ []) ≡ held_in limit i.conversation
one_held limit i = omega (arith, sum_by-cons (λ (j : Instance). held_in limit j.conversation) i [])

weight-left : (limit : ℕ) (gone : Key → Bool) (number : ℕ) (key : Key) (c : Conversation) → gone key ≡ false → weight limit gone false number key (Some c) ≡ held_in limit c
weight-left limit gone number key c live =
    ap (λ b. held_in_all limit (cond (not b) (record { number = number; key = key; conversation = c } ∷ []) [])) live ∙ one_held limit (record { number = number; key = key; conversation = c })

weight-gone : (limit : ℕ) (gone : Key → Bool) (again : Bool) (number : ℕ) (key : Key) (o : Option Conversation) → gone key ≡ true → weight limit gone again number key o ≡ 0
weight-gone limit gone true number key o is = refl
weight-gone limit gone false number key None is = refl
weight-gone limit gone false number key (Some c) is = ap (λ b. held_in_all limit (cond (not b) (record { number = number; key = key; conversation = c } ∷ []) [])) is

weight-none : (limit : ℕ) (gone : Key → Bool) (again : Bool) (number : ℕ) (key : Key) → weight limit gone again number key None ≡ 0
weight-none limit gone true number key = refl
weight-none limit gone false number key = refl

weight-same : (limit : ℕ) (gone gone' : Key → Bool) (again again' : Bool) (number : ℕ) (key : Key) (o o' : Option Conversation) → gone' key ≡ gone key → again' ≡ again → o' ≡ o
    → weight limit gone' again' number key o' ≡ weight limit gone again number key o
weight-same limit gone gone' again again' number key o o' same_gone same_again same =
    ap (λ b. weight limit gone' b number key o') same_again ∙ ap (weight limit gone' again number key) same ∙ by_cases again o
  where
    by_cases : (b : Bool) (x : Option Conversation) → weight limit gone' b number key x ≡ weight limit gone b number key x
    by_cases true x = refl
    by_cases false None = refl
    by_cases false (Some c) = ap (λ b. held_in_all limit (cond (not b) (record { number = number; key = key; conversation = c } ∷ []) [])) same_gone

-- the segments before and behind one more of a key: the conversations of other keys are the same
pub record IsStep (limit : ℕ) (before after : List Segment) (gone gone' : Key → Bool) (key : Key) (c : Conversation) : Type 0 where
  pub latest_others : (k : Key) → same_key k key ≡ false → latest limit k after ≡ latest limit k before
  pub gone_others : (k : Key) → same_key k key ≡ false → gone' k ≡ gone k
  pub latest_is : latest limit key after ≡ Some c
  pub not_gone : gone' key ≡ false

head_same : (limit : ℕ) (before after : List Segment) (gone gone' : Key → Bool) (key : Key) (c : Conversation) → IsStep limit before after gone gone' key c
    → (k : Key) (again again' : Bool) (n : ℕ) → same_key k key ≡ false → again' ≡ again
    → weight limit gone' again' n k (latest limit k after) ≡ weight limit gone again n k (latest limit k before)
head_same limit before after gone gone' key c step k again again' n apart same =
    weight-same limit gone gone' again again' n k (latest limit k before) (latest limit k after) (step.gone_others k apart) same (step.latest_others k apart)

none_continued : (limit : ℕ) (before after : List Segment) (gone gone' : Key → Bool) (key : Key) (c : Conversation) → IsStep limit before after gone gone' key c
    → (n : ℕ) (keys : List Key) → list_any (λ k. same_key k key) keys ≡ false
    → held_in_all limit (left gone' (instances_from limit after n keys)) ≡ held_in_all limit (left gone (instances_from limit before n keys))
none_continued limit before after gone gone' key c step n [] none = refl
none_continued limit before after gone gone' key c step n (k ∷ keys) none =
    let parts = or_parts (same_key k key) (list_any (λ o. same_key o key) keys) none in
    let again = list_any (λ o. same_key o k) keys in
    let head = head_same limit before after gone gone' key c step k again again n parts.0 refl in
    let rest = none_continued limit before after gone gone' key c step (n + 1) keys parts.1 in
    omega (
      arith,
      head,
      rest,
      held_append limit gone' (cond again [] (with_number n k (latest limit k after))) (instances_from limit after (n + 1) keys),
      held_append limit gone (cond again [] (with_number n k (latest limit k before))) (instances_from limit before (n + 1) keys),
    )
  where
    or_parts : (a b : Bool) → (a || b) ≡ false → (a ≡ false) × (b ≡ false)
    or_parts false b none = (refl, none)
    or_parts true b none = absurd (true≢false none)

-- a conversation that goes on
pub held_continued : (limit : ℕ) (before after : List Segment) (gone gone' : Key → Bool) (key : Key) (c : Conversation) → IsStep limit before after gone gone' key c
    → (d : Conversation) → latest limit key before ≡ Some d → gone key ≡ false → (n : ℕ) (keys : List Key) → list_any (λ k. same_key k key) keys ≡ true
    → held_in_all limit (left gone' (instances_from limit after n keys)) + held_in limit d ≡ held_in_all limit (left gone (instances_from limit before n keys)) + held_in limit c
held_continued limit before after gone gone' key c step d was live n [] some = absurd (true≢false (sym some))
held_continued limit before after gone gone' key c step d was live n (k ∷ keys) some =
    by_rest (list_any (λ o. same_key o key) keys) refl (held_continued limit before after gone gone' key c step d was live (n + 1) keys)
  where
    again : Bool
    again = list_any (λ o. same_key o k) keys

    head' : ℕ
    head' = weight limit gone' again n k (latest limit k after)

    head : ℕ
    head = weight limit gone again n k (latest limit k before)

    rest' : ℕ
    rest' = held_in_all limit (left gone' (instances_from limit after (n + 1) keys))

    rest : ℕ
    rest = held_in_all limit (left gone (instances_from limit before (n + 1) keys))

    sum' : held_in_all limit (left gone' (instances_from limit after n (k ∷ keys))) ≡ head' + rest'
    sum' = held_append limit gone' (cond again [] (with_number n k (latest limit k after))) (instances_from limit after (n + 1) keys)

    sum : held_in_all limit (left gone (instances_from limit before n (k ∷ keys))) ≡ head + rest
    sum = held_append limit gone (cond again [] (with_number n k (latest limit k before))) (instances_from limit before (n + 1) keys)

    by_rest : (b : Bool) → list_any (λ o. same_key o key) keys ≡ b → (list_any (λ o. same_key o key) keys ≡ true → rest' + held_in limit d ≡ rest + held_in limit c)
        → held_in_all limit (left gone' (instances_from limit after n (k ∷ keys))) + held_in limit d ≡ held_in_all limit (left gone (instances_from limit before n (k ∷ keys))) + held_in limit c
    by_rest true is more = omega (arith, sum', sum, more is, heads (same_key k key) refl)
      where
        heads : (m : Bool) → same_key k key ≡ m → head' ≡ head
        heads false apart = head_same limit before after gone gone' key c step k again again n apart refl
        heads true same =
            let repeated : again ≡ true = ap (λ y. list_any (λ o. same_key o y) keys) (same_key_is k key same) ∙ is in
            ap (λ b. weight limit gone' b n k (latest limit k after)) repeated ∙ sym (ap (λ b. weight limit gone b n k (latest limit k before)) repeated)
    by_rest false is more =
        let same = here (same_key k key) (list_any (λ o. same_key o key) keys) some is in
        let key_is = same_key_is k key same in
        let last : again ≡ false = ap (λ y. list_any (λ o. same_key o y) keys) key_is ∙ is in
        let now : head' ≡ held_in limit c = ap (λ b. weight limit gone' b n k (latest limit k after)) last ∙ ap (λ y. weight limit gone' false n y (latest limit y after)) key_is
        ∙ ap (weight limit gone' false n key) step.latest_is ∙ weight-left limit gone' n key c step.not_gone in
        let old : head ≡ held_in limit d = ap (λ b. weight limit gone b n k (latest limit k before)) last ∙ ap (λ y. weight limit gone false n y (latest limit y before)) key_is
        ∙ ap (weight limit gone false n key) was ∙ weight-left limit gone n key d live in
        omega (arith, sum', sum, now, old, none_continued limit before after gone gone' key c step (n + 1) keys is)
      where
        here : (a b : Bool) → (a || b) ≡ true → b ≡ false → a ≡ true
        here true b some none = refl
        here false b some none = absurd (true≢false (sym some ∙ none))

-- a conversation that begins
pub held_begun : (limit : ℕ) (before after : List Segment) (gone gone' : Key → Bool) (key : Key) (c : Conversation) → IsStep limit before after gone gone' key c
    → ((gone key ≡ true) ⊎ (latest limit key before ≡ None)) → (n : ℕ) (keys : List Key)
    → held_in_all limit (left gone' (instances_from limit after n (keys ++ key ∷ []))) ≡ held_in_all limit (left gone (instances_from limit before n keys)) + held_in limit c
held_begun limit before after gone gone' key c step nothing n [] =
    held_append limit gone' (with_number n key (latest limit key after)) []
    ∙ (let now : weight limit gone' false n key (latest limit key after) ≡ held_in limit c = ap (weight limit gone' false n key) step.latest_is ∙ weight-left limit gone' n key c step.not_gone in omega (arith, now))
held_begun limit before after gone gone' key c step nothing n (k ∷ keys) =
    let again = list_any (λ o. same_key o k) keys in
    let again' = list_any (λ o. same_key o k) (keys ++ key ∷ []) in
    omega (
      arith,
      held_begun limit before after gone gone' key c step nothing (n + 1) keys,
      heads (same_key k key) refl,
      held_append limit gone' (cond again' [] (with_number n k (latest limit k after))) (instances_from limit after (n + 1) (keys ++ key ∷ [])),
      held_append limit gone (cond again [] (with_number n k (latest limit k before))) (instances_from limit before (n + 1) keys),
    )
  where
    heads : (m : Bool) → same_key k key ≡ m
        → weight limit gone' (list_any (λ o. same_key o k) (keys ++ key ∷ [])) n k (latest limit k after) ≡ weight limit gone (list_any (λ o. same_key o k) keys) n k (latest limit k before)
    heads false apart = head_same limit before after gone gone' key c step k (list_any (λ o. same_key o k) keys) (list_any (λ o. same_key o k) (keys ++ key ∷ [])) n apart
        (list_any-append (λ o. same_key o k) keys (key ∷ []) ∙ ap (λ b. list_any (λ o. same_key o k) keys || (b || false)) (turned (same_key key k) refl) ∙ or_false (list_any (λ o. same_key o k) keys))
      where
        turned : (b : Bool) → same_key key k ≡ b → same_key key k ≡ false
        turned true same = absurd (true≢false (sym (same_key-refl k) ∙ ap (same_key k) (sym (same_key_is key k same)) ∙ apart))
        turned false is = is

        or_false : (b : Bool) → (b || false) ≡ b
        or_false true = refl
        or_false false = refl
    heads true same =
        let key_is = same_key_is k key same in
        let repeated : list_any (λ o. same_key o k) (keys ++ key ∷ []) ≡ true =
        list_any-append (λ o. same_key o k) keys (key ∷ []) ∙ ap (λ b. list_any (λ o. same_key o k) keys || (b || false)) (ap (same_key key) key_is ∙ same_key-refl key) ∙ or_true (list_any (λ o. same_key o k) keys) in
        ap (λ b. weight limit gone' b n k (latest limit k after)) repeated
        ∙ sym (⊎_elim
        (λ is. weight-gone limit gone (list_any (λ o. same_key o k) keys) n k (latest limit k before) (ap gone key_is ∙ is))
        (λ none. ap (weight limit gone (list_any (λ o. same_key o k) keys) n k) (ap (λ y. latest limit y before) key_is ∙ none) ∙ weight-none limit gone (list_any (λ o. same_key o k) keys) n k)
        nothing)
      where
        or_true : (b : Bool) → (b || true) ≡ true
        or_true true = refl
        or_true false = refl

-- the last place of a key with one more
places_counted : (key : Key) (a b : ℕ) (keys : List Key) → (fold (place_after key) (a, b) keys).0 ≡ a + length keys
places_counted key a b [] = omega arith
places_counted key a b (k ∷ keys) = places_counted key (a + 1) (cond (same_key k key) (a + 1) b) keys ∙ (let same : a + 1 + length keys ≡ a + length (k ∷ keys) = omega arith in same)

pub last_place-push : (key : Key) (keys : List Key) (other : Key) (b : Bool) → same_key other key ≡ b → last_place key (keys ++ other ∷ []) ≡ cond b (length keys + 1) (last_place key keys)
last_place-push key keys other b is =
    ap (λ (p : ℕ × ℕ). p.1) (fold-append (place_after key) (0, 0) keys (other ∷ []))
    ∙ ap (λ c. cond c ((fold (place_after key) (0, 0) keys).0 + 1) (last_place key keys)) is
    ∙ ap (λ n. cond b n (last_place key keys)) (let same : (fold (place_after key) (0, 0) keys).0 + 1 ≡ length keys + 1 = omega (arith, places_counted key 0 0 keys) in same)

pub last_place-within : (key : Key) (keys : List Key) → last_place key keys ≤ length keys
last_place-within key [] = omega arith
last_place-within key (k ∷ keys) = by_cases (last_place key keys == 0) (same_key k key) (last_place-cons key k keys) (last_place-within key keys)
  where
    by_cases : (z m : Bool) → last_place key (k ∷ keys) ≡ cond z (cond m 1 0) (1 + last_place key keys) → last_place key keys ≤ length keys → last_place key (k ∷ keys) ≤ length (k ∷ keys)
    by_cases true true is within = omega (arith, is)
    by_cases true false is within = omega (arith, is)
    by_cases false m is within = omega (arith, is, within)
