-- The number of a connection is the place of its key among those that began.
use Rattle.std.proofs.Common.{◌≡◌, ℕ, suc, ◌+◌, ◌<◌, ◌≤◌, Bool, true, false, cond, not, ◌&&◌, List, [], ◌∷◌, ◌++◌, length, filter, Option, None, Some, refl, ap, ◌∙◌, arith}
use Rattle.std.specs.List.{list_any}
use Rattle.std.specs.Prelude.{◌==◌}
use Rattle.std.proofs.lemmas.Bool.Decides.{nat_tests}
use Rattle.std.proofs.lemmas.Grind.{common_steps}
use Rattle.zk_conn.specs.declared.key.Key.{Key}
use Rattle.zk_conn.specs.Histories.{last_place}
use Rattle.zk_conn.specs.Segment.{same_key}
use Rattle.zk_traffic.specs.Conversation.{Conversation}
use Rattle.zk_traffic.specs.Instances.{Instance, instances_from, latest, with_number}
use Rattle.zk_traffic.specs.Segments.{Segment}
use Rattle.zk_traffic.proofs.InstanceLemmas.{any-place, last_place-cons}

first-place : (z m any : Bool) (l L : ℕ) → (l == 0) ≡ z → any ≡ not z → L ≡ cond z (cond m 1 0) (1 + l) → (L == 1) ≡ (m && not any)
first-place true true true l L none any_is is = grind (arith, nat_tests, common_steps)
first-place true true false l L none any_is is = grind (arith, nat_tests, common_steps)
first-place true false any l L none any_is is = grind (arith, nat_tests, common_steps)
first-place false true true l L none any_is is = grind (arith, nat_tests, common_steps)
first-place false true false l L none any_is is = grind (arith, nat_tests, common_steps)
first-place false false any l L none any_is is = grind (arith, nat_tests, common_steps)

later-place : (z m : Bool) (l L n N : ℕ) → (l == 0) ≡ z → L ≡ cond z (cond m 1 0) (1 + l) → N ≡ suc n → (L == N + 1) ≡ (l == n + 1)
later-place true true l L n N none is more = grind (arith, nat_tests, common_steps)
later-place true false l L n N none is more = grind (arith, nat_tests, common_steps)
later-place false m l L n N none is more = grind (arith, nat_tests, common_steps)

-- a key's last place is that of a key among others where the two are the same, and it doesn't stand behind there
pub place-is : (other key : Key) (before rest : List Key)
    → (last_place other (before ++ key ∷ rest) == length before + 1) ≡ (same_key key other && not (list_any (λ k. same_key k other) rest))
place-is other key [] rest =
    first-place (last_place other rest == 0) (same_key key other) (list_any (λ k. same_key k other) rest) (last_place other rest) (last_place other (key ∷ rest)) refl
    (any-place other rest) (last_place-cons other key rest)
place-is other key (k ∷ before) rest =
    let keys = before ++ key ∷ rest in
    later-place (last_place other keys == 0) (same_key k other) (last_place other keys) (last_place other (k ∷ keys)) (length before) (length (k ∷ before)) refl
    (last_place-cons other k keys) refl
    ∙ place-is other key before rest

-- The instance of a number -----------------------------------------------------------------------------------------------

abbrev pub has_number : ℕ → Instance → Bool
has_number number i = i.number == number

apart : (number m : ℕ) (again : Bool) (key : Key) (d : Option Conversation) (rest : List Instance) → (m == number) ≡ false
    → filter (has_number number) (cond again [] (with_number m key d) ++ rest) ≡ filter (has_number number) rest
apart number m true key d rest is = refl
apart number m false key None rest is = refl
apart number m false key (Some c) rest is = ap (λ b. cond b (record { number = m; key = key; conversation = c } ∷ filter (has_number number) rest) (filter (has_number number) rest)) is

not-same : (m n : ℕ) → n < m → (m == n) ≡ false
not-same m n less = grind (arith, nat_tests, less)

not-yet : (m n : ℕ) → m < n → (m == n) ≡ false
not-yet m n less = grind (arith, nat_tests, less)

-- none has a number below that of the first key
pub none-behind : (limit : ℕ) (segments : List Segment) (number m : ℕ) (keys : List Key) → number < m → filter (has_number number) (instances_from limit segments m keys) ≡ []
none-behind limit segments number m [] less = refl
none-behind limit segments number m (key ∷ keys) less =
    apart number m (list_any (λ other. same_key other key) keys) key (latest limit key segments) (instances_from limit segments (m + 1) keys) (not-same m number less)
    ∙ none-behind limit segments number (m + 1) keys (omega (arith, less))

-- none has a number beyond those of the keys
pub none-beyond : (limit : ℕ) (segments : List Segment) (number m : ℕ) (keys : List Key) → m + length keys ≤ number → filter (has_number number) (instances_from limit segments m keys) ≡ []
none-beyond limit segments number m [] within = refl
none-beyond limit segments number m (key ∷ keys) within =
    let more : length (key ∷ keys) ≡ suc (length keys) = refl in
    apart number m (list_any (λ other. same_key other key) keys) key (latest limit key segments) (instances_from limit segments (m + 1) keys) (not-yet m number (omega (arith, within, more)))
    ∙ none-beyond limit segments number (m + 1) keys (omega (arith, within, more))

-- that of a number is the latest of the key at its place, unless that stands behind too
pub one-there : (limit : ℕ) (segments : List Segment) (number m : ℕ) (before : List Key) (key : Key) (rest : List Key) → m + length before ≡ number
    → filter (has_number number) (instances_from limit segments m (before ++ key ∷ rest)) ≡ cond (list_any (λ other. same_key other key) rest) [] (with_number number key (latest limit key segments))
one-there limit segments number m [] key rest place =
    let same : m ≡ number = omega (arith, place) in
    by_again (list_any (λ other. same_key other key) rest) (latest limit key segments) (none-behind limit segments number (m + 1) rest (omega (arith, place))) same
  where
    reflexive : (n : ℕ) → (n == n) ≡ true
    reflexive n = grind (arith, nat_tests, common_steps)

    by_again : (again : Bool) (d : Option Conversation) → filter (has_number number) (instances_from limit segments (m + 1) rest) ≡ [] → m ≡ number
        → filter (has_number number) (cond again [] (with_number m key d) ++ instances_from limit segments (m + 1) rest) ≡ cond again [] (with_number number key d)
    by_again true d none same = none
    by_again false None none same = none
    by_again false (Some c) none same =
        ap (λ b. cond b (record { number = m; key = key; conversation = c } ∷ filter (has_number number) (instances_from limit segments (m + 1) rest)) (filter (has_number number) (instances_from limit segments (m + 1) rest)))
        (ap (λ x. x == number) same ∙ reflexive number)
        ∙ ap (λ l. record { number = m; key = key; conversation = c } ∷ l) none
        ∙ ap (λ x. record { number = x; key = key; conversation = c } ∷ []) same
one-there limit segments number m (k ∷ before) key rest place =
    let more : length (k ∷ before) ≡ suc (length before) = refl in
    apart number m (list_any (λ other. same_key other k) (before ++ key ∷ rest)) k (latest limit k segments) (instances_from limit segments (m + 1) (before ++ key ∷ rest)) (not-yet m number (omega (arith, place, more)))
    ∙ one-there limit segments number (m + 1) before key rest (omega (arith, place, more))
