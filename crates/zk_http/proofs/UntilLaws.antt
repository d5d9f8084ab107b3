-- What a search for an end says of the bytes that are read up to it.
use Rattle.std.proofs.Common.{◌≡◌, ◌⊎◌, ℕ, zero, suc, ◌+◌, ◌<◌, ◌≤◌, Bool, true, false, cond, inl, inr, List, [], ◌∷◌, ◌++◌, length, take, None, Some, refl, ap, subst, ◌∙◌, arith, length-append, length-take}
use Rattle.std.specs.Prelude.{nat_le, nat_lt, find}
use Rattle.std.specs.List.{range_with_len}
use Rattle.std.proofs.lemmas.Bool.{le-leb, lt-ltb}
use Rattle.std.proofs.lemmas.Bool.Decides.{nat_tests}
use Rattle.std.proofs.lemmas.List.{append-nil, take-append-le}
use Rattle.zk_base.specs.Places.{Place, bytes_before_gap}
use Rattle.zk_http.specs.declared.search.Ending.{Ending}
use Rattle.zk_http.specs.declared.search.Search.{Search}
use Rattle.zk_http.specs.declared.units.Reason.{Reason}
use Rattle.zk_http.specs.declared.units.Reason.TheVariants.{Gap}
use Rattle.zk_http.specs.Found.{EndsNowhere}
use Rattle.zk_http.specs.Reads.{Waits, Gives, Refuses, shortest, until}
use Rattle.zk_http.specs.Search.{ends, FindsAt, KnowsAll}
use Rattle.zk_http.specs.Turns.{places_of}
use Rattle.zk_http.proofs.FollowLaws.{before_gap-append, before_gap-places, length-places}
use Rattle.zk_http.proofs.ReadLaws.{shortest_stays, take_grows}

-- ---- the first of some numbers that passes

first_found : (test : ℕ → Bool) (from count n : ℕ) → from ≤ n → n < from + count → test n ≡ true → ((k : ℕ) → from ≤ k → k < n → test k ≡ false)
    → find test (range_with_len from count) ≡ Some n
first_found test from zero n low high is before = absurd (omega arith)
first_found test from (suc count) n low high is before =
    by_place (here_or_behind from n low)
    (λ lt. first_found test (from + 1) count n (omega arith) (omega arith) is (λ k low below. before k (omega arith) below))
  where
    here_or_behind : (a b : ℕ) → a ≤ b → (a ≡ b) ⊎ (a < b)
    here_or_behind a b le = grind arith

    by_place : (from ≡ n) ⊎ (from < n) → (from < n → find test (range_with_len (from + 1) count) ≡ Some n)
        → cond (test from) (Some from) (find test (range_with_len (from + 1) count)) ≡ Some n
    by_place (inl same) later = ap (λ passes. cond passes (Some from) (find test (range_with_len (from + 1) count))) (ap test same ∙ is) ∙ ap (λ n. Some n) same
    by_place (inr behind) later =
        ap (λ passes. cond passes (Some from) (find test (range_with_len (from + 1) count))) (before from (omega arith) behind) ∙ later behind

none_found : (test : ℕ → Bool) (from count : ℕ) → ((k : ℕ) → from ≤ k → k < from + count → test k ≡ false) → find test (range_with_len from count) ≡ None
none_found test from zero none = refl
none_found test from (suc count) none =
    ap (λ passes. cond passes (Some from) (find test (range_with_len (from + 1) count))) (none from (omega arith) (omega arith))
    ∙ none_found test (from + 1) count (λ k low high. none k (omega arith) (omega arith))

shortest_found : (test : List ℕ → Bool) (bytes : List ℕ) (n : ℕ) → n ≤ length bytes → test (take n bytes) ≡ true
    → ((k : ℕ) → k < n → test (take k bytes) ≡ false) → shortest test bytes ≡ Some n
unfolding shortest
shortest_found test bytes n le is before =
    first_found (λ k. test (take k bytes)) 0 (length bytes + 1) n (omega arith) (omega arith) is (λ k low lt. before k lt)

shortest_none : (test : List ℕ → Bool) (bytes : List ℕ) → ((k : ℕ) → k ≤ length bytes → test (take k bytes) ≡ false) → shortest test bytes ≡ None
unfolding shortest
shortest_none test bytes none = none_found (λ k. test (take k bytes)) 0 (length bytes + 1) (λ k low high. none k (omega arith))

-- ---- bytes up to where they end so

-- the end that a search found
pub until_found : (search : Search) (ending : Ending) (limit : ℕ) (why : Reason) (bytes : List ℕ) (n : ℕ) (behind : List Place)
    → FindsAt search ending (take limit bytes) n → until (ends ending) limit why (places_of bytes ++ behind) ≡ Gives n (take n bytes)
until_found search ending limit why bytes n behind finds =
    let more = bytes_before_gap behind in
    let grown = take_grows limit bytes more in
    let found : shortest (ends ending) (take limit (bytes ++ more)) ≡ Some n =
    ap (shortest (ends ending)) grown.1
    ∙ shortest_stays (ends ending) (take limit bytes) grown.0 n (shortest_found (ends ending) (take limit bytes) n finds.within finds.end finds.first) in
    let short : n ≤ length bytes = omega (arith, finds.within, length-take limit bytes) in
    rw (before_gap-append bytes behind, found, before_gap-append bytes behind, take-append-le n bytes more short) refl

-- as many bytes as count don't end so
pub until_long : (ending : Ending) (limit : ℕ) (why : Reason) (bytes : List ℕ) (behind : List Place)
    → EndsNowhere ending (take limit bytes) → limit ≤ length bytes → until (ends ending) limit why (places_of bytes ++ behind) ≡ Refuses limit why
until_long ending limit why bytes behind nowhere long =
    let more = bytes_before_gap behind in
    let none : shortest (ends ending) (take limit (bytes ++ more)) ≡ None =
    ap (shortest (ends ending)) (take-append-le limit bytes more long) ∙ shortest_none (ends ending) (take limit bytes) nowhere in
    let full : nat_le limit (length (bytes ++ more)) ≡ true = le-leb limit (length (bytes ++ more)) (omega (arith, length-append bytes more)) in
    rw (before_gap-append bytes behind, none, before_gap-append bytes behind, full) refl

-- fewer bytes than count don't end so, and more have to come
fewer : (a b : ℕ) → b < a → nat_le a b ≡ false
fewer a b lt = grind (arith, nat_tests)

not_fewer : (a b : ℕ) → b ≤ a → nat_lt a b ≡ false
not_fewer a b le = grind (arith, nat_tests)

pub all_taken : (limit : ℕ) (bytes : List ℕ) → length bytes < limit → take limit bytes ≡ bytes
all_taken zero bytes lt = absurd (omega arith)
all_taken (suc limit) [] lt = refl
all_taken (suc limit) (first ∷ bytes) lt = ap (λ rest. first ∷ rest) (all_taken limit bytes (omega arith))

pub until_waits : (search : Search) (ending : Ending) (limit : ℕ) (why : Reason) (bytes : List ℕ)
    → KnowsAll search ending (take limit bytes) → length bytes < limit → until (ends ending) limit why (places_of bytes) ≡ Waits 0
until_waits search ending limit why bytes knows short =
    let none : shortest (ends ending) (take limit bytes) ≡ None =
    shortest_none (ends ending) (take limit bytes) (λ k le. knows.1.none k (omega (arith, knows.0))) in
    let few : nat_le limit (length bytes) ≡ false = fewer limit (length bytes) short in
    let no_gap : nat_lt (length bytes) (length (places_of bytes)) ≡ false = not_fewer (length bytes) (length (places_of bytes)) (omega (arith, length-places bytes)) in
    rw (before_gap-places bytes, none, before_gap-places bytes, few, no_gap) refl

-- no front of the bytes that were looked through ends so
pub knows_nowhere : (search : Search) (ending : Ending) (bytes : List ℕ) → KnowsAll search ending bytes → EndsNowhere ending bytes
knows_nowhere search ending bytes knows k le = knows.1.none k (omega (arith, knows.0))

-- a gap stands behind them
pub until_gap : (ending : Ending) (limit : ℕ) (why : Reason) (bytes : List ℕ) (behind : List Place)
    → EndsNowhere ending (take limit bytes) → length bytes < limit
    → until (ends ending) limit why (places_of bytes ++ None ∷ behind) ≡ Refuses (length bytes + 1) Gap
until_gap ending limit why bytes behind nowhere short =
    let none : shortest (ends ending) (take limit bytes) ≡ None = shortest_none (ends ending) (take limit bytes) nowhere in
    let few : nat_le limit (length bytes) ≡ false = fewer limit (length bytes) short in
    let gap : nat_lt (length bytes) (length (places_of bytes ++ None ∷ behind)) ≡ true =
    lt-ltb (length bytes) (length (places_of bytes ++ None ∷ behind)) (omega (arith, length-append (places_of bytes) (None ∷ behind), length-places bytes)) in
    let all : bytes_before_gap (places_of bytes ++ None ∷ behind) ≡ bytes = before_gap-append bytes (None ∷ behind) ∙ append-nil bytes in
    rw (all, none, all, few, gap) refl

-- the first that passes is none of those before
found_from : (test : ℕ → Bool) (from count n : ℕ) → find test (range_with_len from count) ≡ Some n → from ≤ n
found_from test from zero n found = absurd (cc)
found_from test from (suc count) n found = by_test (test from) found (λ later. found_from test (from + 1) count n later)
  where
    by_test : (passes : Bool) → cond passes (Some from) (find test (range_with_len (from + 1) count)) ≡ Some n
        → (find test (range_with_len (from + 1) count) ≡ Some n → from + 1 ≤ n) → from ≤ n
    by_test true found later = let same : from ≡ n = cc in omega arith
    by_test false found later = omega (arith, later found)

-- an end is behind at least a byte
pub found_some : (test : List ℕ → Bool) (bytes : List ℕ) (n : ℕ) → test [] ≡ false → shortest test bytes ≡ Some n → 0 < n
unfolding shortest
found_some test bytes n none found =
    let same : length bytes + 1 ≡ suc (length bytes) = omega arith in
    let all : find (λ n. test (take n bytes)) (range_with_len 0 (suc (length bytes))) ≡ Some n =
    subst (λ count. find (λ n. test (take n bytes)) (range_with_len 0 count) ≡ Some n) same found in
    omega (arith, found_from (λ n. test (take n bytes)) 1 (length bytes) n (by_test (test []) none all))
  where
    by_test : (passes : Bool) → passes ≡ false
        → cond passes (Some 0) (find (λ n. test (take n bytes)) (range_with_len (0 + 1) (length bytes))) ≡ Some n
        → find (λ n. test (take n bytes)) (range_with_len 1 (length bytes)) ≡ Some n
    by_test true is found = absurd (cc)
    by_test false is found = found
