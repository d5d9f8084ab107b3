-- What is read of places is read on behind the first of them.
use Rattle.std.proofs.Common.{◌≡◌, ℕ, zero, suc, ◌+◌, ◌-◌, ◌<◌, ◌≤◌, Bool, true, false, cond, List, [], ◌∷◌, ◌++◌, length, take, drop, Some, refl, sym, ap, ◌∙◌, arith, length-append, length-drop}
use Rattle.std.specs.Prelude.{nat_le, is_none}
use Rattle.std.proofs.lemmas.Bool.{leb-true, le-leb}
use Rattle.std.proofs.lemmas.Bool.Decides.{nat_tests}
use Rattle.std.proofs.lemmas.List.{drop-append-le, take-append-le, drop-drop}
use Rattle.std.proofs.lemmas.List.Sums.{sum_by-append}
use Rattle.std.proofs.Math.Seq.{take-append-add, take-length, drop-append-add}
use Rattle.zk_http.specs.declared.units.Reason.{Reason}
use Rattle.zk_base.specs.Places.{Place, gaps, bytes_before_gap}
use Rattle.zk_http.specs.Reads.{Answer, Waits, Gives, Refuses, Reads, later, and_then, ◌>>=◌, any_places}
use Rattle.zk_http.specs.Turns.{places_of}

-- ---- answers further on

pub later_none : {A : Type 0} (answer : Answer A) → later 0 answer ≡ answer
later_none (Waits used) = let same : 0 + used ≡ used = omega arith in ap (λ n. Waits n) same
later_none (Gives used value) = let same : 0 + used ≡ used = omega arith in ap (λ n. Gives n value) same
later_none (Refuses used reason) = let same : 0 + used ≡ used = omega arith in ap (λ n. Refuses n reason) same

pub later_later : {A : Type 0} (n m : ℕ) (answer : Answer A) → later n (later m answer) ≡ later (n + m) answer
later_later n m (Waits used) = let same : n + (m + used) ≡ (n + m) + used = omega arith in ap (λ k. Waits k) same
later_later n m (Gives used value) = let same : n + (m + used) ≡ (n + m) + used = omega arith in ap (λ k. Gives k value) same
later_later n m (Refuses used reason) = let same : n + (m + used) ≡ (n + m) + used = omega arith in ap (λ k. Refuses k reason) same

then_later : {A B : Type 0} (n : ℕ) (answer : Answer A) (next : A → Reads B) (places : List Place)
    → and_then (later n answer) next places ≡ later n (and_then answer next (drop n places))
then_later n (Waits used) next places = refl
then_later n (Gives used value) next places =
    ap (λ rest. later (n + used) (next value rest)) (sym (drop-drop used n places))
    ∙ sym (later_later n used (next value (drop used (drop n places))))
then_later n (Refuses used reason) next places = refl

-- ---- one form behind another

-- a form that goes on behind n places as another does so with what follows it
pub goes_then : {A B : Type 0} (old new : Reads A) (next : A → Reads B) (n : ℕ) (places behind : List Place) → n ≤ length places
    → old (places ++ behind) ≡ later n (new (drop n places ++ behind))
    → (old >>= next) (places ++ behind) ≡ later n ((new >>= next) (drop n places ++ behind))
goes_then old new next n places behind le goes =
    ap (λ answer. and_then answer next (places ++ behind)) goes
    ∙ then_later n (new (drop n places ++ behind)) next (places ++ behind)
    ∙ ap (λ rest. later n (and_then (new (drop n places ++ behind)) next rest)) (drop-append-le n places behind le)

-- a form that is read whole leaves what follows it
pub given_then : {A B : Type 0} (old : Reads A) (next : A → Reads B) (value : A) (n : ℕ) (places behind : List Place) → n ≤ length places
    → old (places ++ behind) ≡ Gives n value
    → (old >>= next) (places ++ behind) ≡ later n (next value (drop n places ++ behind))
given_then old next value n places behind le is =
    ap (λ answer. and_then answer next (places ++ behind)) is
    ∙ ap (λ rest. later n (next value rest)) (drop-append-le n places behind le)

pub refused_then : {A B : Type 0} (old : Reads A) (next : A → Reads B) (n : ℕ) (why : Reason) (places : List Place)
    → old places ≡ Refuses n why → (old >>= next) places ≡ Refuses n why
refused_then old next n why places is = ap (λ answer. and_then answer next places) is

pub waits_then : {A B : Type 0} (old : Reads A) (next : A → Reads B) (n : ℕ) (places : List Place)
    → old places ≡ Waits n → (old >>= next) places ≡ Waits n
waits_then old next n places is = ap (λ answer. and_then answer next places) is

-- two forms that follow and give the same
pub same_then : {A B : Type 0} (answer : Answer A) (next again : A → Reads B) (places : List Place)
    → ((value : A) (rest : List Place) → next value rest ≡ again value rest) → and_then answer next places ≡ and_then answer again places
same_then (Waits used) next again places same = refl
same_then (Gives used value) next again places same = ap (later used) (same value (drop used places))
same_then (Refuses used reason) next again places same = refl

-- ---- any places

pub gaps-append : (xs ys : List Place) → gaps (xs ++ ys) ≡ gaps xs + gaps ys
gaps-append xs ys = sum_by-append (λ place. cond (is_none place) 1 0) xs ys

-- places that are there are passed, and the others are still to come
pub places_pass : {B : Type 0} (left : ℕ) (next again : ℕ → Reads B) (places behind : List Place)
    → ((gap : ℕ) (rest : List Place) → next (gaps places + gap) rest ≡ again gap rest)
    → (any_places (length places + left) >>= next) (places ++ behind) ≡ later (length places) ((any_places left >>= again) behind)
places_pass left next again places behind same = pass (nat_le left (length behind)) refl
  where
    n : ℕ
    n = length places

    pass : (enough : Bool) → nat_le left (length behind) ≡ enough
        → (any_places (length places + left) >>= next) (places ++ behind) ≡ later (length places) ((any_places left >>= again) behind)
    pass true is =
        let le = leb-true left (length behind) is in
        let all : nat_le (length places + left) (length (places ++ behind)) ≡ true =
        le-leb (length places + left) (length (places ++ behind)) (omega (arith, length-append places behind)) in
        let counted : gaps (take (length places + left) (places ++ behind)) ≡ gaps places + gaps (take left behind) =
        ap gaps (take-append-add places behind left) ∙ gaps-append places (take left behind) in
        rw (all, is, counted, drop-append-add places behind left, same (gaps (take left behind)) (drop left behind))
        (sym (later_later (length places) left (again (gaps (take left behind)) (drop left behind))))
    pass false is =
        let none : nat_le (length places + left) (length (places ++ behind)) ≡ false = fewer (nat_le (length places + left) (length (places ++ behind))) refl in
        rw (none, is) (ap (λ n. Waits n) (length-append places behind))
      where
        fewer : (all : Bool) → nat_le (length places + left) (length (places ++ behind)) ≡ all → all ≡ false
        fewer false was = refl
        fewer true was =
            let le : left ≤ length behind = omega (arith, leb-true (length places + left) (length (places ++ behind)) was, length-append places behind) in
            absurd cc_false
          where
            cc_false : ⊥
            cc_false = let t = le-leb left (length behind) (omega (arith, leb-true (length places + left) (length (places ++ behind)) was, length-append places behind)) in cc

-- so many places are there
pub places_there : (left : ℕ) (places behind : List Place) → left ≤ length places → any_places left (places ++ behind) ≡ Gives left (gaps (take left places))
places_there left places behind le =
    let all : nat_le left (length (places ++ behind)) ≡ true = le-leb left (length (places ++ behind)) (omega (arith, length-append places behind)) in
    rw (all, take-append-le left places behind le) refl

-- fewer are
pub places_wait : (left : ℕ) (places : List Place) → length places < left → any_places left places ≡ Waits (length places)
places_wait left places fewer =
    let none : nat_le left (length places) ≡ false = test left (length places) fewer in
    rw none refl
  where
    test : (a b : ℕ) → b < a → nat_le a b ≡ false
    test a b lt = grind (arith, nat_tests)

-- ---- bytes

pub before_gap-append : (bytes : List ℕ) (behind : List Place) → bytes_before_gap (places_of bytes ++ behind) ≡ bytes ++ bytes_before_gap behind
before_gap-append [] behind = refl
before_gap-append (first ∷ bytes) behind = ap (λ rest. first ∷ rest) (before_gap-append bytes behind)

pub before_gap-places : (bytes : List ℕ) → bytes_before_gap (places_of bytes) ≡ bytes
before_gap-places [] = refl
before_gap-places (first ∷ bytes) = ap (λ rest. first ∷ rest) (before_gap-places bytes)

pub drop-places : (n : ℕ) (bytes : List ℕ) → drop n (places_of bytes) ≡ places_of (drop n bytes)
drop-places zero bytes = refl
drop-places (suc n) [] = refl
drop-places (suc n) (first ∷ bytes) = drop-places n bytes

pub take-places : (n : ℕ) (bytes : List ℕ) → take n (places_of bytes) ≡ places_of (take n bytes)
take-places zero bytes = refl
take-places (suc n) [] = refl
take-places (suc n) (first ∷ bytes) = ap (λ rest. Some first ∷ rest) (take-places n bytes)

pub no_gaps : (bytes : List ℕ) → gaps (places_of bytes) ≡ 0
no_gaps [] = refl
no_gaps (first ∷ bytes) = no_gaps bytes

pub length-places : (bytes : List ℕ) → length (places_of bytes) ≡ length bytes
length-places [] = refl
length-places (first ∷ bytes) = ap suc (length-places bytes)

-- the bytes behind the first n, as a slice has them
pub lent_bytes : (n : ℕ) (bytes : List ℕ) → take (length bytes - n) (drop n bytes) ≡ drop n bytes
lent_bytes n bytes = ap (λ k. take k (drop n bytes)) (sym (length-drop n bytes)) ∙ take-length (drop n bytes)

pub lent : (n : ℕ) (bytes : List ℕ) → places_of (take (length bytes - n) (drop n bytes)) ≡ drop n (places_of bytes)
lent n bytes = ap places_of (lent_bytes n bytes) ∙ sym (drop-places n bytes)
