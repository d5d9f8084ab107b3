-- What is read of the places that are there stays when more places come.
use Rattle.std.proofs.Common.{◌≡◌, ℕ, zero, suc, ◌+◌, ◌-◌, ◌<◌, ◌≤◌, Bool, true, false, cond, List, [], ◌∷◌, ◌++◌, length, take, drop, Option, None, Some, refl, sym, ap, subst, arith, length-append, length-take, length-drop}
use Rattle.std.specs.Prelude.{◌==◌, nat_le, nat_lt, find}
use Rattle.std.specs.List.{range_with_len}
use Rattle.std.proofs.lemmas.Bool.{leb-true, le-leb, ltb-true, lt-ltb}
use Rattle.std.proofs.lemmas.List.{drop-append-le, take-append-le}
use Rattle.zk_http.specs.declared.units.Reason.{Reason}
use Rattle.zk_http.specs.declared.units.Reason.TheVariants.{Gap}
use Rattle.zk_base.specs.Places.{Place, gaps, bytes_before_gap}
use Rattle.zk_http.specs.Reads.{Answer, Waits, Gives, Refuses, Reads, later, and_then, ◌>>=◌, gives, refuses, any_places, byte, exactly, shortest, not_yet, through, until}

-- an answer uses so many places at most
abbrev pub IsWithin : {A : Type 0} → Answer A → ℕ → Type 0
IsWithin (Waits used) n = Unit {0}
IsWithin (Gives used value) n = used ≤ n
IsWithin (Refuses used reason) n = used ≤ n

-- an answer other than to wait is given later too
abbrev pub Stays : {A : Type 0} → Answer A → Answer A → Type 0
Stays (Waits used) late = Unit {0}
Stays (Gives used value) late = late ≡ Gives used value
Stays (Refuses used reason) late = late ≡ Refuses used reason

-- what is read are places that are there, and it stays when more come
pub record Decides {A : Type 0} (read : Reads A) : Type 0 where
  pub within : (places : List Place) → IsWithin (read places) (length places)
  pub stays : (places behind : List Place) → Stays (read places) (read (places ++ behind))

-- ---- answers

pub stays_same : {A : Type 0} (answer : Answer A) → Stays answer answer
stays_same (Waits used) = tt
stays_same (Gives used value) = refl
stays_same (Refuses used reason) = refl

pub stays_along : {A : Type 0} (early middle late : Answer A) → Stays early middle → Stays middle late → Stays early late
stays_along (Waits used) middle late first second = tt
stays_along (Gives used value) middle late first second = subst (λ answer. Stays answer late) first second
stays_along (Refuses used reason) middle late first second = subst (λ answer. Stays answer late) first second

later_within : {A : Type 0} (n : ℕ) (answer : Answer A) (m : ℕ) → n ≤ m → IsWithin answer (m - n) → IsWithin (later n answer) m
later_within n (Waits used) m le within = tt
later_within n (Gives used value) m le within = omega arith
later_within n (Refuses used reason) m le within = omega arith

pub later_stays : {A : Type 0} (n : ℕ) (early late : Answer A) → Stays early late → Stays (later n early) (later n late)
later_stays n (Waits used) late stays = tt
later_stays n (Gives used value) late stays = ap (later n) stays
later_stays n (Refuses used reason) late stays = ap (later n) stays

-- ---- one form behind another

and_then_within : {A B : Type 0} (answer : Answer A) (next : A → Reads B) (places : List Place) → IsWithin answer (length places)
    → ((value : A) → Decides (next value)) → IsWithin (and_then answer next places) (length places)
and_then_within (Waits used) next places within each = tt
and_then_within (Gives used value) next places within each =
    later_within used (next value (drop used places)) (length places) within
    (subst (IsWithin (next value (drop used places))) (length-drop used places) ((each value).within (drop used places)))
and_then_within (Refuses used reason) next places within each = within

and_then_stays : {A B : Type 0} (early late : Answer A) (next : A → Reads B) (places behind : List Place) → IsWithin early (length places)
    → Stays early late → ((value : A) → Decides (next value)) → Stays (and_then early next places) (and_then late next (places ++ behind))
and_then_stays (Waits used) late next places behind within stays each = tt
and_then_stays (Gives used value) late next places behind within stays each =
    let early = next value (drop used places) in
    let goes_on : Stays early (next value (drop used (places ++ behind))) =
    subst (λ rest. Stays early (next value rest)) (sym (drop-append-le used places behind within)) ((each value).stays (drop used places) behind) in
    subst (λ answer. Stays (later used early) (and_then answer next (places ++ behind))) (sym stays)
    (later_stays used early (next value (drop used (places ++ behind))) goes_on)
and_then_stays (Refuses used reason) late next places behind within stays each =
    ap (λ answer. and_then answer next (places ++ behind)) stays

pub then_decides : {A B : Type 0} (read : Reads A) (next : A → Reads B) → Decides read → ((value : A) → Decides (next value)) → Decides (read >>= next)
then_decides read next first each = record {
  within = λ places. and_then_within (read places) next places (first.within places) each;
  stays = λ places behind.
      and_then_stays (read places) (read (places ++ behind)) next places behind (first.within places) (first.stays places behind) each;
}

-- ---- single forms

pub gives_decides : {A : Type 0} (value : A) → Decides (gives value)
gives_decides value = record { within = λ places. omega arith; stays = λ places behind. refl }

pub refuses_decides : {A : Type 0} (reason : Reason) → Decides (refuses {A = A} reason)
refuses_decides reason = record { within = λ places. omega arith; stays = λ places behind. refl }

-- one of two forms
pub either_decides : {A : Type 0} (test : Bool) (one other : Reads A) → Decides one → Decides other → Decides (cond test one other)
either_decides true one other first second = first
either_decides false one other first second = second

pub byte_decides : Decides byte
byte_decides = record { within = within; stays = stays }
  where
    within : (places : List Place) → IsWithin (byte places) (length places)
    within [] = tt
    within (None ∷ places) = omega arith
    within (Some found ∷ places) = omega arith

    stays : (places behind : List Place) → Stays (byte places) (byte (places ++ behind))
    stays [] behind = tt
    stays (None ∷ places) behind = refl
    stays (Some found ∷ places) behind = refl

pub exactly_decides : (wanted : ℕ) (reason : Reason) → Decides (exactly wanted reason)
exactly_decides wanted reason =
    then_decides byte (λ found. cond (found == wanted) (gives found) (refuses reason)) byte_decides
    (λ found. either_decides (found == wanted) (gives found) (refuses reason) (gives_decides found) (refuses_decides reason))

pub any_places_decides : (n : ℕ) → Decides (any_places n)
any_places_decides n = record {
  within = λ places. within places (nat_le n (length places)) refl;
  stays = λ places behind. stays places behind (nat_le n (length places)) refl;
}
  where
    within : (places : List Place) (enough : Bool) → nat_le n (length places) ≡ enough
        → IsWithin (cond enough (Gives n (gaps (take n places))) (Waits (length places))) (length places)
    within places true is = leb-true n (length places) is
    within places false is = tt

    stays : (places behind : List Place) (enough : Bool) → nat_le n (length places) ≡ enough
        → Stays (cond enough (Gives n (gaps (take n places))) (Waits (length places))) (any_places n (places ++ behind))
    stays places behind true is =
        let le = leb-true n (length places) is in
        let still = le-leb n (length (places ++ behind)) (omega (arith, length-append places behind)) in
        rw (still, take-append-le n places behind le) refl
    stays places behind false is = tt

-- ---- bytes up to where they end

pub length_before_gap : (places : List Place) → length (bytes_before_gap places) ≤ length places
length_before_gap [] = omega arith
length_before_gap (None ∷ places) = omega arith
length_before_gap (Some found ∷ places) = omega (arith, length_before_gap places)

-- bytes before the first gap that are there stay
pub before_gap_grows : (places behind : List Place) → (more : List ℕ) × (bytes_before_gap (places ++ behind) ≡ bytes_before_gap places ++ more)
before_gap_grows [] behind = (bytes_before_gap behind, refl)
before_gap_grows (None ∷ places) behind = ([], refl)
before_gap_grows (Some found ∷ places) behind =
    let rest = before_gap_grows places behind in
    (rest.0, ap (λ bytes. found ∷ bytes) rest.1)

-- where a gap is there, no byte comes before it
pub before_gap_ended : (places behind : List Place) → length (bytes_before_gap places) < length places
    → bytes_before_gap (places ++ behind) ≡ bytes_before_gap places
before_gap_ended [] behind gap = absurd (omega arith)
before_gap_ended (None ∷ places) behind gap = refl
before_gap_ended (Some found ∷ places) behind gap = ap (λ bytes. found ∷ bytes) (before_gap_ended places behind (omega arith))

-- the first of some numbers that passes is one of them
found_below : (test : ℕ → Bool) (from count n : ℕ) → find test (range_with_len from count) ≡ Some n → n < from + count
found_below test from zero n found = absurd (cc)
found_below test from (suc count) n found = below (test from) found (λ later. found_below test (from + 1) count n later)
  where
    below : (passes : Bool) → cond passes (Some from) (find test (range_with_len (from + 1) count)) ≡ Some n
        → (find test (range_with_len (from + 1) count) ≡ Some n → n < from + 1 + count) → n < from + suc count
    below true found others = let same : from ≡ n = cc in omega arith
    below false found others = omega (arith, others found)

-- among more numbers the first that passes is the same, where those that were there pass as before
found_among : (test again : ℕ → Bool) (from count more n : ℕ) → ((k : ℕ) → k < from + count → again k ≡ test k)
    → find test (range_with_len from count) ≡ Some n → find again (range_with_len from (count + more)) ≡ Some n
found_among test again from zero more n same found = absurd (cc)
found_among test again from (suc count) more n same found =
    subst (λ length. find again (range_with_len from length) ≡ Some n) (suc_first count more)
    (subst (λ passes. cond passes (Some from) (find again (range_with_len (from + 1) (count + more))) ≡ Some n) (sym (same from (omega arith)))
    (among (test from) found (λ later. found_among test again (from + 1) count more n (λ k below. same k (omega arith)) later)))
  where
    suc_first : (a b : ℕ) → suc (a + b) ≡ suc a + b
    suc_first a b = omega arith

    among : (passes : Bool) → cond passes (Some from) (find test (range_with_len (from + 1) count)) ≡ Some n
        → (find test (range_with_len (from + 1) count) ≡ Some n → find again (range_with_len (from + 1) (count + more)) ≡ Some n)
        → cond passes (Some from) (find again (range_with_len (from + 1) (count + more))) ≡ Some n
    among true found others = found
    among false found others = others found

pub shortest_within : (ends : List ℕ → Bool) (bytes : List ℕ) (n : ℕ) → shortest ends bytes ≡ Some n → n ≤ length bytes
unfolding shortest
shortest_within ends bytes n found = omega (arith, found_below (λ k. ends (take k bytes)) 0 (length bytes + 1) n found)

pub shortest_stays : (ends : List ℕ → Bool) (bytes more : List ℕ) (n : ℕ) → shortest ends bytes ≡ Some n → shortest ends (bytes ++ more) ≡ Some n
unfolding shortest
shortest_stays ends bytes more n found =
    let count : (length bytes + 1) + length more ≡ length (bytes ++ more) + 1 = omega (arith, length-append bytes more) in
    subst (λ count. find (λ k. ends (take k (bytes ++ more))) (range_with_len 0 count) ≡ Some n) count
    (found_among (λ k. ends (take k bytes)) (λ k. ends (take k (bytes ++ more))) 0 (length bytes + 1) (length more) n
    (λ k below. ap ends (take-append-le k bytes more (omega arith))) found)

-- of bytes that go on, as many are taken from the front, and others behind them where there is room
pub take_grows : (limit : ℕ) (bytes more : List ℕ) → (others : List ℕ) × (take limit (bytes ++ more) ≡ take limit bytes ++ others)
take_grows zero bytes more = ([], refl)
take_grows (suc limit) [] more = (take (suc limit) more, refl)
take_grows (suc limit) (first ∷ bytes) more =
    let rest = take_grows limit bytes more in
    (rest.0, ap (λ taken. first ∷ taken) rest.1)

not_yet_within : (limit : ℕ) (reason : Reason) (places : List Place) → IsWithin (not_yet limit reason places) (length places)
not_yet_within limit reason places =
    within (nat_le limit (length (bytes_before_gap places))) (nat_lt (length (bytes_before_gap places)) (length places)) refl refl
  where
    within : (full gap : Bool) → nat_le limit (length (bytes_before_gap places)) ≡ full → nat_lt (length (bytes_before_gap places)) (length places) ≡ gap
        → IsWithin {A = List ℕ} (cond full (Refuses limit reason) (cond gap (Refuses (length (bytes_before_gap places) + 1) Gap) (Waits 0))) (length places)
    within true gap full_is gap_is = omega (arith, leb-true limit (length (bytes_before_gap places)) full_is, length_before_gap places)
    within false true full_is gap_is = omega (arith, ltb-true (length (bytes_before_gap places)) (length places) gap_is)
    within false false full_is gap_is = tt

-- what shows that no such bytes come shows it later too
not_yet_stays : (ends : List ℕ → Bool) (limit : ℕ) (reason : Reason) (places behind : List Place)
    → shortest ends (take limit (bytes_before_gap places)) ≡ None
    → Stays (not_yet limit reason places) (until ends limit reason (places ++ behind))
not_yet_stays ends limit reason places behind none =
    stays (nat_le limit (length (bytes_before_gap places))) (nat_lt (length (bytes_before_gap places)) (length places)) refl refl
  where
    stays : (full gap : Bool) → nat_le limit (length (bytes_before_gap places)) ≡ full → nat_lt (length (bytes_before_gap places)) (length places) ≡ gap
        → Stays (cond full (Refuses limit reason) (cond gap (Refuses (length (bytes_before_gap places) + 1) Gap) (Waits 0)))
        (until ends limit reason (places ++ behind))
    stays true gap full_is gap_is =
        let grows = before_gap_grows places behind in
        let le = leb-true limit (length (bytes_before_gap places)) full_is in
        let still : nat_le limit (length (bytes_before_gap places ++ grows.0)) ≡ true =
        le-leb limit (length (bytes_before_gap places ++ grows.0)) (omega (arith, length-append (bytes_before_gap places) grows.0)) in
        rw (grows.1, take-append-le limit (bytes_before_gap places) grows.0 le, none, grows.1, still) refl
    stays false true full_is gap_is =
        let lt = ltb-true (length (bytes_before_gap places)) (length places) gap_is in
        let still : nat_lt (length (bytes_before_gap places)) (length (places ++ behind)) ≡ true =
        lt-ltb (length (bytes_before_gap places)) (length (places ++ behind)) (omega (arith, length-append places behind)) in
        rw (before_gap_ended places behind lt, none, before_gap_ended places behind lt, full_is, still) refl
    stays false false full_is gap_is = tt

pub until_decides : (ends : List ℕ → Bool) (limit : ℕ) (reason : Reason) → Decides (until ends limit reason)
until_decides ends limit reason = record {
  within = λ places. within places (shortest ends (take limit (bytes_before_gap places))) refl;
  stays = λ places behind. stays places behind (shortest ends (take limit (bytes_before_gap places))) refl;
}
  where
    within : (places : List Place) (found : Option ℕ) → shortest ends (take limit (bytes_before_gap places)) ≡ found
        → IsWithin (through found limit reason places) (length places)
    within places None is = not_yet_within limit reason places
    within places (Some n) is =
        omega (arith, shortest_within ends (take limit (bytes_before_gap places)) n is, length-take limit (bytes_before_gap places), length_before_gap places)

    stays : (places behind : List Place) (found : Option ℕ) → shortest ends (take limit (bytes_before_gap places)) ≡ found
        → Stays (through found limit reason places) (until ends limit reason (places ++ behind))
    stays places behind None is = not_yet_stays ends limit reason places behind is
    stays places behind (Some n) is =
        let grows = before_gap_grows places behind in
        let taken = take_grows limit (bytes_before_gap places) grows.0 in
        let short : n ≤ length (bytes_before_gap places) =
        omega (arith, shortest_within ends (take limit (bytes_before_gap places)) n is, length-take limit (bytes_before_gap places)) in
        rw (
          grows.1,
          taken.1,
          shortest_stays ends (take limit (bytes_before_gap places)) taken.0 n is,
          grows.1,
          take-append-le n (bytes_before_gap places) grows.0 short,
        ) refl
