-- A segment is told to a stream that isn't over.
use Rattle.std.proofs.Common.{◌≡◌, ℕ, zero, suc, ◌+◌, ◌<◌, ◌≤◌, max, min, Bool, true, false, cond, not, ◌&&◌, ◌||◌, ltb, leb, List, [], ◌∷◌, ◌++◌, length, map, Option, None, IsSome, refl, sym, ap, subst, ◌∙◌, ◌⊎◌, inl, inr, ⊎_elim, arith}
use Rattle.std.specs.Prelude.{is_some, is_none, unwrap_or}
use Rattle.std.specs.List.{list_any, range_with_len}
use Rattle.std.specs.Option.{option_or}
use Rattle.std.proofs.lemmas.Bool.{cases_lt, cases_eq, false≢true, lt-leb, le-leb, lt-ltb, le-ltb}
use Rattle.zk_reasm.specs.declared.place.TheConstants.{PLACES}
use Rattle.zk_reasm.specs.declared.stream.Put.TheVariants.{Grew, Kept, Old, GaveUp}
use Rattle.zk_reasm.specs.declared.stream.Stream.{Stream}
use Rattle.zk_reasm.specs.Between.{held_between}
use Rattle.zk_reasm.specs.Direction.{reach, byte_put, byte_at, front, above}
use Rattle.zk_reasm.specs.Held.{byte_kept, taken_of}
use Rattle.zk_reasm.specs.Histories.{counted, over_of, gets_place, put_counted, put_of}
use Rattle.zk_reasm.specs.Judging.{Finishes}
use Rattle.zk_reasm.specs.Parts.{IsFirstFree}
use Rattle.zk_reasm.specs.Piece.{byte_in}
use Rattle.zk_reasm.specs.Place.{byte_of, places_of}
use Rattle.zk_reasm.specs.Standing.{StandsFor}
use Rattle.zk_reasm.specs.Told.{Told, Segment, greatest, payload_end, acked}
use Rattle.zk_reasm.proofs.ContentLemmas.{kept_live, run_facts}
use Rattle.zk_reasm.proofs.HistoryLemmas.{counted_live}
use Rattle.zk_reasm.proofs.PieceLemmas.{none_from, option_or_held, byte_in-before, byte_in-behind, byte_in-within, byte_in-nothing}
use Rattle.zk_reasm.proofs.RangeLemmas.{held_at, held_between-first, held_between-le}
use Rattle.zk_reasm.proofs.StandingLemmas.{Moved, reached_moved, reached_above}
use Rattle.zk_reasm.proofs.ToldLemmas.{step_of, byte_at-append, acked-append, payload_end-append, greatest-range-some}

-- what the code did with the segment's bytes
pub record Puts (old : Stream) (seq : ℕ) (bytes : List ℕ) (piece cut : ℕ) (whole rest : List ℕ) (end count : ℕ) (added : ℕ → Option ℕ) : Type 0 where
  pub whole_is : (at : ℕ) → byte_in piece whole at ≡ byte_of old.base seq bytes at
  pub places_are : places_of old.base seq bytes ≡ range_with_len piece (length whole)
  pub within : piece + length whole ≤ PLACES
  pub rest_is : (at : ℕ) → byte_in cut rest at ≡ cond (leb old.held.front at) (byte_in piece whole at) None
  pub end_is : end ≡ greatest (map (λ at. at + 1) (range_with_len piece (length whole)))
  pub added_are : (at : ℕ) → added at ≡ option_or (byte_kept old.held at) (byte_in cut rest at)
  pub counted : count + held_between (byte_kept old.held) cut (cut + length rest) ≡ length rest

-- and then with the front
pub record Goes (old mid : Stream) (end : ℕ) (added : ℕ → Option ℕ) (taken known most : ℕ) : Type 0 where
  pub base_is : mid.base ≡ old.base
  pub limit_is : mid.limit ≡ old.limit
  pub fin_is : mid.fin ≡ old.fin
  pub over_is : mid.is_over ≡ old.is_over
  pub acked_is : mid.acked ≡ old.acked
  pub payload_is : mid.payload_end ≡ max old.payload_end end
  pub taken_is : taken_of mid.held ≡ taken
  pub more : taken_of old.held ≤ taken
  pub low : taken ≤ max (taken_of old.held) mid.held.front
  pub bytes_are : (at : ℕ) → taken ≤ at → byte_kept mid.held at ≡ added at
  pub known_is : known ≡ min mid.acked (max mid.payload_end (unwrap_or mid.fin 0))
  pub most_is : most ≡ max old.held.front (min PLACES (unwrap_or mid.fin PLACES))
  pub front_moves : (free : ℕ) → IsFirstFree added (max old.held.front known) free → mid.held.front ≡ min free most

cond_same : (b : Bool) (o : Option ℕ) → cond b o o ≡ o
cond_same true o = refl
cond_same false o = refl

-- the end of places that stand one behind another
pub end_of : (a n end : ℕ) → end ≡ greatest (map (λ at. at + 1) (range_with_len a n)) → ((n ≡ 0) × (end ≡ 0)) ⊎ ((0 < n) × (end ≡ a + n))
end_of a zero end is = inl (refl, is)
end_of a (suc n) end is = inr (omega arith, is ∙ greatest-range-some a (suc n) (omega arith))

pub put_moved : (old mid : Stream) (base limit : ℕ) (told : List Told) (was taken seq : ℕ) (bytes : List ℕ) (piece cut : ℕ) (whole rest : List ℕ) (end count : ℕ) (added : ℕ → Option ℕ) (known most : ℕ)
    → StandsFor old base limit told was → old.is_over ≡ false → Puts old seq bytes piece cut whole rest end count added → Goes old mid end added taken known most
    → Moved old mid base told (Segment seq bytes) was taken added known most
put_moved old mid base limit told was taken seq bytes piece cut whole rest end count added known most stands on puts goes = record {
  base_is = goes.base_is;
  limit_is = goes.limit_is;
  fin_is = goes.fin_is;
  live = goes.over_is ∙ on;
  moves_is = refl;
  no_fin = refl;
  no_stop = refl;
  acked_is = goes.acked_is ∙ stands.acked_is on ∙ sym (acked-append base told (Segment seq bytes) ∙ (let e : max (acked base told) 0 ≡ acked base told = omega arith in e));
  payload_is = goes.payload_is ∙ ap (λ n. max n end) (stands.payload_is on) ∙ sym payload_same;
  taken_is = goes.taken_is;
  more = omega (arith, goes.more, stands.taken_is);
  low = omega (arith, goes.low, stands.taken_is);
  held = goes.bytes_are;
  bytes_are = told_bytes;
  known_is = goes.known_is;
  most_is = goes.most_is;
  front_moves = goes.front_moves;
  end = ⊎_elim
      (λ none. omega (arith, payload_same, none.1, old_end))
      (λ some. omega (arith, payload_same, some.1, old_end, puts.within))
      (end_of piece (length whole) end puts.end_is);
  behind = λ at past. byte_at-append base told (Segment seq bytes) at
      ∙ ap (λ o. option_or o (byte_put base (step_of told (Segment seq bytes)) at)) (old_behind at (omega (arith, past, payload_same)))
      ∙ put_none at (⊎_elim
      (λ none. ap (λ xs. byte_in piece xs at) (empty whole none.0) ∙ byte_in-nothing piece at)
      (λ some. byte_in-behind piece whole at (omega (arith, past, payload_same, some.1)))
      (end_of piece (length whole) end puts.end_is));
}
  where
    over_false : over_of base limit told ≡ false
    over_false = sym stands.over_is ∙ on

    counts : counted base limit told ≡ told
    counts = counted_live base limit told over_false

    old_end : payload_end base told ≤ PLACES
    old_end = subst (λ xs. payload_end base xs ≤ PLACES) counts stands.together.«end»

    old_behind : (at : ℕ) → payload_end base told ≤ at → byte_at base told at ≡ None
    old_behind at past = ap (λ xs. byte_at base xs at) (sym counts) ∙ stands.together.behind at (subst (λ xs. payload_end base xs ≤ at) (sym counts) past)

    payload_same : payload_end base (told ++ Segment seq bytes ∷ []) ≡ max (payload_end base told) end
    payload_same = payload_end-append base told (Segment seq bytes)
        ∙ ap (λ xs. max (payload_end base told) (greatest (map (λ at. at + 1) xs))) (ap (λ b. places_of b seq bytes) (sym stands.base_is) ∙ puts.places_are)
        ∙ ap (max (payload_end base told)) (sym puts.end_is)

    whole_is : (at : ℕ) → byte_in piece whole at ≡ byte_of base seq bytes at
    whole_is at = puts.whole_is at ∙ ap (λ b. byte_of b seq bytes at) stands.base_is

    empty : (xs : List ℕ) → length xs ≡ 0 → xs ≡ []
    empty [] none = refl
    empty (x ∷ xs) none = absurd (omega (arith, none))

    put_none : (at : ℕ) → byte_in piece whole at ≡ None → byte_put base (step_of told (Segment seq bytes)) at ≡ None
    put_none at none = ap (λ o. cond (leb (reach base told) at) o None) (sym (whole_is at) ∙ none) ∙ cond_same (leb (reach base told) at) None

    told_bytes : (at : ℕ) → was ≤ at → added at ≡ byte_at base (told ++ Segment seq bytes ∷ []) at
    told_bytes at low =
        puts.added_are at
        ∙ ap (λ o. option_or o (byte_in cut rest at)) (stands.bytes_are at low ∙ kept_live base limit told at over_false ∙ ap (λ xs. byte_at base xs at) counts)
        ∙ ap (option_or (byte_at base told at)) (puts.rest_is at ∙ ap (λ o. cond (leb old.held.front at) o None) (whole_is at))
        ∙ by_place
        ∙ sym (byte_at-append base told (Segment seq bytes) at)
      where
        front_same : old.held.front ≡ front base told
        front_same = stands.front_is ∙ ap (front base) counts

        by_place : option_or (byte_at base told at) (cond (leb old.held.front at) (byte_of base seq bytes at) None)
            ≡ option_or (byte_at base told at) (cond (leb (reach base told) at) (byte_of base seq bytes at) None)
        by_place = ⊎_elim
            (λ below. ap (λ b. option_or (byte_at base told at) (cond b (byte_of base seq bytes at) None))
            (lt-leb old.held.front at (omega (arith, below, stands.together.order over_false, front_same)) ∙ sym (lt-leb (reach base told) at below)))
            (λ past. ⊎_elim
            (λ covered.
            let held = stands.together.covered over_false at past (omega (arith, covered, front_same)) in
            option_or_held (byte_at base told at) (cond (leb old.held.front at) (byte_of base seq bytes at) None) held
            ∙ sym (option_or_held (byte_at base told at) (cond (leb (reach base told) at) (byte_of base seq bytes at) None) held))
            (λ above. ap (λ b. option_or (byte_at base told at) (cond b (byte_of base seq bytes at) None))
            (le-leb old.held.front at above ∙ sym (le-leb (reach base told) at past)))
            (cases_lt at old.held.front))
            (cases_lt at (reach base told))

-- places that all have a byte
held_all : (f : ℕ → Option ℕ) (a n : ℕ) → held_between f a (a + n) ≡ n → (at : ℕ) → a ≤ at → at < a + n → IsSome (f at)
held_all f a zero full at low high = absurd (omega (arith, low, high))
held_all f a (suc n) full at low high =
    let first = held_between-first f a (a + suc n) (omega arith) in
    let rest = ap (held_between f (a + 1)) (let e : a + suc n ≡ a + 1 + n = omega arith in e) in
    let most = held_between-le f (a + 1) (a + 1 + n) in
    ⊎_elim
    (λ here. ap (λ i. is_some (f i)) here ∙ one (is_some (f a)) refl (omega (arith, first, rest, most, full)))
    (λ later. held_all f (a + 1) n (omega (arith, first, rest, most, full, at_most (is_some (f a)))) at (omega (arith, low, later)) (omega (arith, high)))
    (cases_eq at a)
  where
    one : (b : Bool) → is_some (f a) ≡ b → 1 ≤ held_at f a → is_some (f a) ≡ true
    one true is more = is
    one false is more = absurd (let none : held_at f a ≡ 0 = ap (λ c. cond c 1 0) is in omega (arith, none, more))

    at_most : (b : Bool) → cond b 1 0 ≤ 1
    at_most true = omega arith
    at_most false = omega arith

-- places of which one has no byte
held_but_one : (f : ℕ → Option ℕ) (a n : ℕ) → held_between f a (a + n) < n → (k : ℕ) × (k < n) × (f (a + k) ≡ None)
held_but_one f a zero less = absurd (omega (arith, less))
held_but_one f a (suc n) less = by_first (is_some (f a)) refl (λ fewer. held_but_one f (a + 1) n fewer)
  where
    shifted : held_between f a (a + suc n) ≡ held_at f a + held_between f (a + 1) (a + 1 + n)
    shifted = held_between-first f a (a + suc n) (omega arith) ∙ ap (λ b. held_at f a + held_between f (a + 1) b) (let e : a + suc n ≡ a + 1 + n = omega arith in e)

    by_first : (b : Bool) → is_some (f a) ≡ b → (held_between f (a + 1) (a + 1 + n) < n → (k : ℕ) × (k < n) × (f (a + 1 + k) ≡ None))
        → (k : ℕ) × (k < suc n) × (f (a + k) ≡ None)
    by_first false is next = (0, omega arith, ap f (let e : a + 0 ≡ a = omega arith in e) ∙ none_from (f a) is)
    by_first true is next =
        let here : held_at f a ≡ 1 = ap (λ c. cond c 1 0) is in
        let later = next (omega (arith, less, shifted, here)) in
        (suc later.0, omega (arith, later.1), ap f (let e : a + suc later.0 ≡ a + 1 + later.0 = omega arith in e) ∙ later.2)

list_any-range-none : (test : ℕ → Bool) (a n : ℕ) → ((at : ℕ) → a ≤ at → at < a + n → test at ≡ false) → list_any test (range_with_len a n) ≡ false
list_any-range-none test a zero none = refl
list_any-range-none test a (suc n) none =
    ap (λ b. b || list_any test (range_with_len (a + 1) n)) (none a (omega arith) (omega arith))
    ∙ list_any-range-none test (a + 1) n (λ at low high. none at (omega (arith, low)) (omega (arith, high)))

list_any-range-some : (test : ℕ → Bool) (a n at : ℕ) → a ≤ at → at < a + n → test at ≡ true → list_any test (range_with_len a n) ≡ true
list_any-range-some test a zero at low high is = absurd (omega (arith, low, high))
list_any-range-some test a (suc n) at low high is =
    ⊎_elim
    (λ here. ap (λ b. b || list_any test (range_with_len (a + 1) n)) (ap test (sym here) ∙ is))
    (λ later. ap (λ b. test a || b) (list_any-range-some test (a + 1) n at (omega (arith, low, later)) (omega (arith, high)) is) ∙ or_true (test a))
    (cases_eq at a)
  where
    or_true : (b : Bool) → (b || true) ≡ true
    or_true true = refl
    or_true false = refl

-- where a piece has a byte
pub byte_in_bounds : (from : ℕ) (bytes : List ℕ) (at : ℕ) → IsSome (byte_in from bytes at) → (from ≤ at) × (at < from + length bytes)
byte_in_bounds from bytes at there =
    ⊎_elim
    (λ before. absurd (false≢true (sym (ap is_some (byte_in-before from bytes at before)) ∙ there)))
    (λ low. ⊎_elim
    (λ high. (low, high))
    (λ behind. absurd (false≢true (sym (ap is_some (byte_in-behind from bytes at behind)) ∙ there)))
    (cases_lt at (from + length bytes)))
    (cases_lt at from)

-- a byte was put exactly where one of the segment gets a place
pub placed_is : (old : Stream) (base limit : ℕ) (told : List Told) (taken seq : ℕ) (bytes : List ℕ) (piece cut : ℕ) (whole rest : List ℕ) (end count : ℕ) (added : ℕ → Option ℕ)
    → StandsFor old base limit told taken → old.is_over ≡ false → Puts old seq bytes piece cut whole rest end count added
    → ltb 0 count ≡ gets_place base told seq bytes
unfolding gets_place
placed_is old base limit told taken seq bytes piece cut whole rest end count added stands on puts =
    ⊎_elim
    (λ some.
    let hole = held_but_one (byte_kept old.held) cut (length rest) (omega (arith, puts.counted, some)) in
    let at = cut + hole.0 in
    let there = byte_in-within cut rest at (omega arith) (omega (arith, hole.1)) in
    let past = at_or_past at there in
    let bounds = byte_in_bounds piece whole at past.1 in
    lt-ltb 0 count some
    ∙ sym (ap (list_any test) places ∙ list_any-range-some test piece (length whole) at bounds.0 bounds.1
    (ap (λ b. b && is_none (byte_at base told at)) (le-leb (reach base told) at (omega (arith, past.0, order, front_same)))
    ∙ ap not (ap is_some (sym (kept_is at (omega (arith, past.0, taken_low))) ∙ hole.2)))))
    (λ none. le-ltb 0 count none
    ∙ sym (ap (list_any test) places ∙ list_any-range-none test piece (length whole)
    (λ at low high. old_or_held none at low high)))
    (cases_lt 0 count)
  where
    test : ℕ → Bool
    test at = leb (reach base told) at && is_none (byte_at base told at)

    over_false : over_of base limit told ≡ false
    over_false = sym stands.over_is ∙ on

    counts : counted base limit told ≡ told
    counts = counted_live base limit told over_false

    front_same : old.held.front ≡ front base told
    front_same = stands.front_is ∙ ap (front base) counts

    order : reach base told ≤ front base told
    order = stands.together.order over_false

    taken_low : taken ≤ old.held.front
    taken_low = let facts = run_facts old base limit told taken stands in omega (arith, facts.low, facts.high, stands.front_is)

    places : places_of base seq bytes ≡ range_with_len piece (length whole)
    places = ap (λ b. places_of b seq bytes) (sym stands.base_is) ∙ puts.places_are

    kept_is : (at : ℕ) → taken ≤ at → byte_kept old.held at ≡ byte_at base told at
    kept_is at low = stands.bytes_are at low ∙ kept_live base limit told at over_false ∙ ap (λ xs. byte_at base xs at) counts

    at_or_past : (at : ℕ) → IsSome (byte_in cut rest at) → (old.held.front ≤ at) × IsSome (byte_in piece whole at)
    at_or_past at there = ⊎_elim
        (λ below. absurd (false≢true (sym (ap is_some (puts.rest_is at ∙ ap (λ b. cond b (byte_in piece whole at) None) (lt-leb old.held.front at below))) ∙ there)))
        (λ past. (past, sym (ap is_some (puts.rest_is at ∙ ap (λ b. cond b (byte_in piece whole at) None) (le-leb old.held.front at past))) ∙ there))
        (cases_lt at old.held.front)

    and_false : (b : Bool) → (b && false) ≡ false
    and_false true = refl
    and_false false = refl

    held_there : (at : ℕ) → IsSome (byte_at base told at) → test at ≡ false
    held_there at held = ap (λ b. leb (reach base told) at && not b) held ∙ and_false (leb (reach base told) at)

    old_or_held : count ≤ 0 → (at : ℕ) → piece ≤ at → at < piece + length whole → test at ≡ false
    old_or_held none at low high = ⊎_elim
        (λ below. ap (λ b. b && is_none (byte_at base told at)) (lt-leb (reach base told) at below))
        (λ past. ⊎_elim
        (λ covered. held_there at (stands.together.covered over_false at past (omega (arith, covered, front_same))))
        (λ above.
        let there = ap is_some (puts.rest_is at ∙ ap (λ b. cond b (byte_in piece whole at) None) (le-leb old.held.front at above)) ∙ byte_in-within piece whole at low high in
        let bounds = byte_in_bounds cut rest at there in
        held_there at (ap is_some (sym (kept_is at (omega (arith, above, taken_low))))
        ∙ held_all (byte_kept old.held) cut (length rest) (omega (arith, puts.counted, none)) at bounds.0 bounds.1))
        (cases_lt at old.held.front))
        (cases_lt at (reach base told))

-- what the segment does
pub answer_is : (old mid new : Stream) (base limit : ℕ) (told : List Told) (was taken seq : ℕ) (bytes : List ℕ) (piece cut : ℕ) (whole rest : List ℕ) (end count : ℕ) (added : ℕ → Option ℕ) (known most : ℕ) (gave_up over : Bool)
    → Finishes mid new over → gave_up ≡ ltb mid.limit mid.held.above
    → StandsFor old base limit told was → old.is_over ≡ false → Puts old seq bytes piece cut whole rest end count added → Goes old mid end added taken known most
    → cond gave_up GaveUp (cond (ltb old.held.front new.held.front) Grew (cond (ltb 0 count) Kept Old)) ≡ put_of base limit told seq bytes
unfolding put_of
answer_is old mid new base limit told was taken seq bytes piece cut whole rest end count added known most gave_up over finishes is stands on puts goes =
    let moved = put_moved old mid base limit told was taken seq bytes piece cut whole rest end count added known most stands on puts goes in
    let reached = reached_moved old mid base limit told (Segment seq bytes) was taken added known most stands on moved in
    let over_false : over_of base limit told ≡ false = sym stands.over_is ∙ on in
    let counts = counted_live base limit told over_false in
    ap (λ b. cond b GaveUp (cond (ltb old.held.front new.held.front) Grew (cond (ltb 0 count) Kept Old)))
    (is ∙ ap (λ n. ltb n mid.held.above) reached.limit_is ∙ ap (ltb limit) (reached_above mid base limit (told ++ Segment seq bytes ∷ []) taken reached))
    ∙ ap (λ b. cond (ltb limit (above base (told ++ Segment seq bytes ∷ []))) GaveUp (cond b Grew (cond (ltb 0 count) Kept Old)))
    (ap (λ n. ltb n new.held.front) (stands.front_is ∙ ap (front base) counts) ∙ ap (ltb (front base told)) (finishes.front ∙ reached.front_is))
    ∙ ap (λ b. cond (ltb limit (above base (told ++ Segment seq bytes ∷ []))) GaveUp (cond (ltb (front base told) (front base (told ++ Segment seq bytes ∷ []))) Grew (cond b Kept Old)))
    (placed_is old base limit told was seq bytes piece cut whole rest end count added stands on puts)
    ∙ sym (ap (λ b. cond b Old (put_counted base limit told seq bytes)) over_false)

-- no byte gets a place where the stream is over
pub old_where_over : (old : Stream) (base limit : ℕ) (told : List Told) (taken seq : ℕ) (bytes : List ℕ) → StandsFor old base limit told taken → old.is_over ≡ true
    → Old ≡ put_of base limit told seq bytes
unfolding put_of
old_where_over old base limit told taken seq bytes stands over = sym (ap (λ b. cond b Old (put_counted base limit told seq bytes)) (sym stands.over_is ∙ over))
