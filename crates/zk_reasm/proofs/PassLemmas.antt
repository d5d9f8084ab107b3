-- A stream lends what is new of a segment's payload, and holds nothing of it.
use Rattle.std.proofs.Common.{◌≡◌, ℕ, suc, ◌+◌, ◌-◌, ◌<◌, ◌≤◌, ◌==◌, max, min, Bool, true, false, cond, ◌||◌, ltb, leb, List, [], ◌∷◌, ◌++◌, length, map, Option, None, Some, IsSome, refl, sym, ap, subst, ◌∙◌, ⊎_elim, arith}
use Rattle.std.specs.Prelude.{is_some, unwrap_or}
use Rattle.std.specs.List.{slice_get, range_with_len}
use Rattle.std.specs.Option.{option_or}
use Rattle.std.proofs.lemmas.Grind.{common_steps}
use Rattle.std.proofs.lemmas.Bool.{cases_lt, false≢true, le-leb, lt-ltb, le-ltb}
use Rattle.zk_reasm.specs.declared.place.TheConstants.{PLACES}
use Rattle.zk_reasm.specs.declared.stream.Put.TheVariants.{Grew, Kept, Old}
use Rattle.zk_reasm.specs.declared.stream.Stream.{Stream}
use Rattle.zk_reasm.specs.declared.held.Held.{Held}
use Rattle.zk_reasm.specs.Apart.{byte_apart}
use Rattle.zk_reasm.specs.Between.{held_between}
use Rattle.zk_reasm.specs.Direction.{byte_at}
use Rattle.zk_reasm.specs.Held.{byte_kept, taken_of}
use Rattle.zk_reasm.specs.Histories.{is_reached, content, front_of, put_of, byte_of_stream}
use Rattle.zk_reasm.specs.Judging.{Finishes}
use Rattle.zk_reasm.specs.Piece.{byte_in}
use Rattle.zk_reasm.specs.Place.{byte_of, places_of}
use Rattle.zk_reasm.specs.Standing.{StandsFor}
use Rattle.zk_reasm.specs.Told.{Told, Segment, greatest}
use Rattle.zk_reasm.proofs.HeldLemmas.{byte_held-apart, nothing_apart}
use Rattle.zk_reasm.proofs.PieceLemmas.{none_from, option_or_none, byte_in-at, byte_in-behind, byte_in-within}
use Rattle.zk_reasm.proofs.PutLemmas.{Goes, Puts, answer_is, byte_in_bounds, end_of, put_moved}
use Rattle.zk_reasm.proofs.RangeLemmas.{held_at, held_between-empty, held_between-first, held_between-split}
use Rattle.zk_reasm.proofs.StandingLemmas.{Moved, Reached, no_stop_yet, reached_moved, reached_over, stands_judged}

-- what the code found, and did
pub record Passed (old mid : Stream) (seq : ℕ) (bytes : List ℕ) (piece : ℕ) (whole rest : List ℕ) (end : ℕ) : Type 0 where
  pub live : old.is_over ≡ false
  pub no_fin : old.fin ≡ None
  pub seen : old.payload_end ≤ old.held.front
  pub nothing : old.held.kept ≡ 0
  pub settled : old.held.run_end ≡ old.held.front
  pub whole_is : (at : ℕ) → byte_in piece whole at ≡ byte_of old.base seq bytes at
  pub places_are : places_of old.base seq bytes ≡ range_with_len piece (length whole)
  pub within : piece + length whole ≤ PLACES
  pub rest_is : (at : ℕ) → byte_in old.held.front rest at ≡ cond (leb old.held.front at) (byte_in piece whole at) None
  pub end_is : end ≡ greatest (map (λ at. at + 1) (range_with_len piece (length whole)))
  pub base_is : mid.base ≡ old.base
  pub limit_is : mid.limit ≡ old.limit
  pub fin_is : mid.fin ≡ old.fin
  pub over_is : mid.is_over ≡ old.is_over
  pub acked_is : mid.acked ≡ old.acked
  pub payload_is : mid.payload_end ≡ max old.payload_end end
  pub front_is : mid.held.front ≡ old.held.front + length rest
  pub taken_is : taken_of mid.held ≡ mid.held.front
  pub bytes_are : (at : ℕ) → mid.held.front ≤ at → byte_kept mid.held at ≡ byte_kept old.held at
  pub above_is : mid.held.above ≡ 0

-- no place has a byte where none of a range has one
none_of : (f : ℕ → Option ℕ) (a b at : ℕ) → held_between f a b ≡ 0 → a ≤ at → at < b → f at ≡ None
none_of f a b at none low high =
    let cut = held_between-split f a at b low (omega (arith, high)) in
    let first = held_between-first f at b high in
    by_first (is_some (f at)) refl (omega (arith, cut, first, none))
  where
    by_first : (c : Bool) → is_some (f at) ≡ c → held_at f at ≡ 0 → f at ≡ None
    by_first false is zero_there = none_from (f at) is
    by_first true is zero_there = absurd (let one : held_at f at ≡ 1 = ap (λ b. cond b 1 0) is in omega (arith, one, zero_there))

-- no byte is held where nothing is
pub nothing_held : (held : Held) → held.kept ≡ 0 → (at : ℕ) → held.run_end ≤ at → at < PLACES → byte_kept held at ≡ None
unfolding byte_kept
nothing_held held nothing at low high =
    byte_held-apart held.run held.run_end held.apart at low ∙ none_of (byte_apart held.apart) held.run_end PLACES at (nothing_apart held nothing) low high

-- all up to the front was taken
taken_all : (held : Held) → held.kept ≡ 0 → taken_of held ≡ held.run_end
unfolding taken_of
taken_all held nothing = omega (arith, held.kept_counts, nothing)

-- the bytes at places, and those that were lent behind the front
abbrev lent_behind : Stream → List ℕ → ℕ → Option ℕ
lent_behind old rest at = option_or (byte_kept old.held at) (byte_in old.held.front rest at)

passed_puts : (old mid : Stream) (seq : ℕ) (bytes : List ℕ) (piece : ℕ) (whole rest : List ℕ) (end : ℕ) → Passed old mid seq bytes piece whole rest end
    → Puts old seq bytes piece old.held.front whole rest end (length rest) (lent_behind old rest)
passed_puts old mid seq bytes piece whole rest end passed = record {
  whole_is = passed.whole_is;
  places_are = passed.places_are;
  within = passed.within;
  rest_is = passed.rest_is;
  end_is = passed.end_is;
  added_are = λ at. refl;
  counted =
      let none = held_between-empty (byte_kept old.held) old.held.front (old.held.front + length rest)
      (λ at low high. nothing_held old.held passed.nothing at (omega (arith, low, passed.settled)) (omega (arith, high, passed.front_is, mid.held.front_within))) in
      omega (arith, none);
}

-- the payload ends at the new front, or before it
passed_end : (old mid : Stream) (seq : ℕ) (bytes : List ℕ) (piece : ℕ) (whole rest : List ℕ) (end : ℕ) → Passed old mid seq bytes piece whole rest end
    → mid.payload_end ≤ old.held.front + length rest
passed_end old mid seq bytes piece whole rest end passed =
    ⊎_elim
    (λ none. omega (arith, passed.payload_is, passed.seen, none.1))
    (λ some. ⊎_elim
    (λ past.
    let last = piece + length whole - 1 in
    let there = ap is_some (passed.rest_is last ∙ ap (λ b. cond b (byte_in piece whole last) None) (le-leb old.held.front last (omega (arith, past, some.0))))
    ∙ byte_in-within piece whole last (omega (arith, some.0)) (omega (arith, some.0)) in
    let bounds = byte_in_bounds old.held.front rest last there in
    omega (arith, passed.payload_is, passed.seen, some.1, some.0, bounds.1))
    (λ below. omega (arith, passed.payload_is, passed.seen, some.1, below))
    (cases_lt old.held.front (piece + length whole)))
    (end_of piece (length whole) end passed.end_is)

passed_goes : (old mid : Stream) (seq : ℕ) (bytes : List ℕ) (piece : ℕ) (whole rest : List ℕ) (end : ℕ) → Passed old mid seq bytes piece whole rest end
    → Goes old mid end (lent_behind old rest) mid.held.front (min mid.acked (max mid.payload_end (unwrap_or mid.fin 0))) (max old.held.front (min PLACES (unwrap_or mid.fin PLACES)))
passed_goes old mid seq bytes piece whole rest end passed = record {
  base_is = passed.base_is;
  limit_is = passed.limit_is;
  fin_is = passed.fin_is;
  over_is = passed.over_is;
  acked_is = passed.acked_is;
  payload_is = passed.payload_is;
  taken_is = passed.taken_is;
  more = omega (arith, taken_all old.held passed.nothing, passed.settled, passed.front_is);
  low = omega arith;
  bytes_are = λ at low. passed.bytes_are at low
      ∙ sym (ap (option_or (byte_kept old.held at)) (byte_in-behind old.held.front rest at (omega (arith, low, passed.front_is))) ∙ option_or_none (byte_kept old.held at));
  known_is = refl;
  most_is = refl;
  front_moves = λ free first. ⊎_elim
      (λ below. absurd (none_some (lent_behind old rest free) first.none
      (put (byte_kept old.held free) (byte_in old.held.front rest free) (byte_in-within old.held.front rest free (omega (arith, first.least)) (omega (arith, below, passed.front_is))))))
      (λ past. ⊎_elim
      (λ further. ⊎_elim
      (λ within. absurd (none_some (lent_behind old rest mid.held.front)
      (ap (λ o. option_or o (byte_in old.held.front rest mid.held.front)) (nothing_held old.held passed.nothing mid.held.front (omega (arith, passed.settled, passed.front_is)) within)
      ∙ byte_in-behind old.held.front rest mid.held.front (omega (arith, passed.front_is)))
      (first.before mid.held.front (omega (arith, known_within, passed.front_is)) further)))
      (λ all. omega (arith, most_places, all, further, mid.held.front_within))
      (cases_lt mid.held.front PLACES))
      (λ same. omega (arith, most_places, past, same, mid.held.front_within))
      (cases_lt mid.held.front free))
      (cases_lt free mid.held.front);
}
  where
    no_fin : mid.fin ≡ None
    no_fin = passed.fin_is ∙ passed.no_fin

    known_within : min mid.acked (max mid.payload_end (unwrap_or mid.fin 0)) ≤ old.held.front + length rest
    known_within =
        let end_within = passed_end old mid seq bytes piece whole rest end passed in
        let zero_fin : unwrap_or mid.fin 0 ≡ 0 = ap (λ o. unwrap_or o 0) no_fin in
        omega (arith, end_within, zero_fin)

    most_places : max old.held.front (min PLACES (unwrap_or mid.fin PLACES)) ≡ PLACES
    most_places = let all : unwrap_or mid.fin PLACES ≡ PLACES = ap (λ o. unwrap_or o PLACES) no_fin in omega (arith, all, old.held.front_within)

    put : (o p : Option ℕ) → IsSome p → IsSome (option_or o p)
    put None p there = there
    put (Some x) p there = refl

    none_some : (o : Option ℕ) → o ≡ None → IsSome o → ⊥
    none_some o none there = false≢true (sym (ap is_some none) ∙ there)

passed_moved : (old mid : Stream) (base limit : ℕ) (told : List Told) (taken seq : ℕ) (bytes : List ℕ) (piece : ℕ) (whole rest : List ℕ) (end : ℕ)
    → StandsFor old base limit told taken → Passed old mid seq bytes piece whole rest end
    → Moved old mid base told (Segment seq bytes) taken mid.held.front (lent_behind old rest) (min mid.acked (max mid.payload_end (unwrap_or mid.fin 0))) (max old.held.front (min PLACES (unwrap_or mid.fin PLACES)))
passed_moved old mid base limit told taken seq bytes piece whole rest end stands passed =
    put_moved old mid base limit told taken mid.held.front seq bytes piece old.held.front whole rest end (length rest) (lent_behind old rest)
    (min mid.acked (max mid.payload_end (unwrap_or mid.fin 0))) (max old.held.front (min PLACES (unwrap_or mid.fin PLACES)))
    stands passed.live (passed_puts old mid seq bytes piece whole rest end passed) (passed_goes old mid seq bytes piece whole rest end passed)

passed_reached : (old mid : Stream) (base limit : ℕ) (told : List Told) (taken seq : ℕ) (bytes : List ℕ) (piece : ℕ) (whole rest : List ℕ) (end : ℕ)
    → StandsFor old base limit told taken → Passed old mid seq bytes piece whole rest end → Reached mid base limit (told ++ Segment seq bytes ∷ []) mid.held.front
passed_reached old mid base limit told taken seq bytes piece whole rest end stands passed =
    reached_moved old mid base limit told (Segment seq bytes) taken mid.held.front (lent_behind old rest)
    (min mid.acked (max mid.payload_end (unwrap_or mid.fin 0))) (max old.held.front (min PLACES (unwrap_or mid.fin PLACES)))
    stands passed.live (passed_moved old mid base limit told taken seq bytes piece whole rest end stands passed)

-- it doesn't give up
within_limit : (stream : Stream) → stream.held.above ≡ 0 → ltb stream.limit stream.held.above ≡ false
within_limit stream none = ap (ltb stream.limit) none ∙ le-ltb stream.limit 0 (omega arith)

same_stream : (stream : Stream) → Finishes stream stream false
same_stream stream = record {
  base = refl;
  limit = refl;
  fin = refl;
  acked = refl;
  payload_end = refl;
  front = refl;
  taken = refl;
  below = λ at low. refl;
  above = λ over at low. absurd (false≢true over);
  kept = λ on at. refl;
}

passed_judged : (old mid : Stream) (base limit : ℕ) (told : List Told) (taken seq : ℕ) (bytes : List ℕ) (piece : ℕ) (whole rest : List ℕ) (end : ℕ)
    → StandsFor old base limit told taken → Passed old mid seq bytes piece whole rest end → StandsFor mid base limit (told ++ Segment seq bytes ∷ []) mid.held.front
passed_judged old mid base limit told taken seq bytes piece whole rest end stands passed =
    let reached = passed_reached old mid base limit told taken seq bytes piece whole rest end stands passed in
    stands_judged mid mid base limit (told ++ Segment seq bytes ∷ []) mid.held.front false reached
    (reached_over mid base limit (told ++ Segment seq bytes ∷ []) mid.held.front reached (no_stop_yet old base limit told (Segment seq bytes) taken stands passed.live refl)
    ∙ ap (λ o. is_reached o mid.held.front || ltb mid.limit mid.held.above) (passed.fin_is ∙ passed.no_fin)
    ∙ within_limit mid passed.above_is)
    (same_stream mid) (passed.over_is ∙ passed.live)

-- what was taken, and with it what was lent
passed_taken : (old mid : Stream) (base limit : ℕ) (told : List Told) (taken seq : ℕ) (bytes : List ℕ) (piece : ℕ) (whole rest : List ℕ) (end : ℕ)
    → StandsFor old base limit told taken → Passed old mid seq bytes piece whole rest end → (taken ≡ old.held.front) × (mid.held.front ≡ taken + length rest)
passed_taken old mid base limit told taken seq bytes piece whole rest end stands passed =
    let all = taken_all old.held passed.nothing in
    (omega (arith, all, stands.taken_is, passed.settled), omega (arith, all, stands.taken_is, passed.settled, passed.front_is))

pub stands_passed : (old mid : Stream) (base limit : ℕ) (told : List Told) (taken seq : ℕ) (bytes : List ℕ) (piece : ℕ) (whole rest : List ℕ) (end : ℕ)
    → StandsFor old base limit told taken → Passed old mid seq bytes piece whole rest end → StandsFor mid base limit (told ++ Segment seq bytes ∷ []) (taken + length rest)
stands_passed old mid base limit told taken seq bytes piece whole rest end stands passed =
    subst (StandsFor mid base limit (told ++ Segment seq bytes ∷ [])) (passed_taken old mid base limit told taken seq bytes piece whole rest end stands passed).1
    (passed_judged old mid base limit told taken seq bytes piece whole rest end stands passed)

-- places that have these bytes, one behind another
listed : (f : ℕ → Option ℕ) (from : ℕ) (bytes : List ℕ) → ((k : ℕ) → k < length bytes → f (from + k) ≡ slice_get bytes k)
    → map f (range_with_len from (length bytes)) ≡ map (λ byte. Some byte) bytes
listed f from [] here = refl
listed f from (byte ∷ bytes) here =
    ap (λ o. o ∷ map f (range_with_len (from + 1) (length bytes))) (ap f (let e : from ≡ from + 0 = omega arith in e) ∙ here 0 (omega arith))
    ∙ ap (λ ys. Some byte ∷ ys) (listed f (from + 1) bytes (λ k low. ap f (let e : from + 1 + k ≡ from + suc k = omega arith in e) ∙ here (suc k) (omega (arith, low))))

-- the new places are those of the bytes that were lent
pub passed_content : (old mid : Stream) (base limit : ℕ) (told : List Told) (taken seq : ℕ) (bytes : List ℕ) (piece : ℕ) (whole rest : List ℕ) (end : ℕ)
    → StandsFor old base limit told taken → Passed old mid seq bytes piece whole rest end
    → content base limit (told ++ Segment seq bytes ∷ []) taken ≡ map (λ byte. Some byte) rest
unfolding content
passed_content old mid base limit told taken seq bytes piece whole rest end stands passed =
    let more = told ++ Segment seq bytes ∷ [] in
    let moved = passed_moved old mid base limit told taken seq bytes piece whole rest end stands passed in
    let reached = passed_reached old mid base limit told taken seq bytes piece whole rest end stands passed in
    let now = passed_judged old mid base limit told taken seq bytes piece whole rest end stands passed in
    let ends = passed_taken old mid base limit told taken seq bytes piece whole rest end stands passed in
    ap (λ n. map (byte_of_stream base limit more) (range_with_len taken n)) (let e : front_of base limit more - taken ≡ length rest = omega (arith, now.front_is, ends.1) in e)
    ∙ listed (byte_of_stream base limit more) taken rest
    (λ k low.
    let at = taken + k in
    ap (λ xs. byte_at base xs at) reached.counts
    ∙ sym (moved.bytes_are at (omega arith))
    ∙ ap (λ o. option_or o (byte_in old.held.front rest at)) (nothing_held old.held passed.nothing at (omega (arith, passed.settled, ends.0)) (omega (arith, low, ends.1, mid.held.front_within)))
    ∙ byte_in-at old.held.front rest at (omega (arith, ends.0))
    ∙ ap (slice_get rest) (let e : at - old.held.front ≡ k = omega (arith, ends.0) in e))

-- the front grew by what was lent
pub passed_answer : (old mid : Stream) (base limit : ℕ) (told : List Told) (taken seq : ℕ) (bytes : List ℕ) (piece : ℕ) (whole rest : List ℕ) (end : ℕ)
    → StandsFor old base limit told taken → Passed old mid seq bytes piece whole rest end → put_of base limit told seq bytes ≡ cond (length rest == 0) Old Grew
passed_answer old mid base limit told taken seq bytes piece whole rest end stands passed =
    sym (answer_is old mid mid base limit told taken mid.held.front seq bytes piece old.held.front whole rest end (length rest) (lent_behind old rest)
    (min mid.acked (max mid.payload_end (unwrap_or mid.fin 0))) (max old.held.front (min PLACES (unwrap_or mid.fin PLACES))) false false
    (same_stream mid) (sym (within_limit mid passed.above_is)) stands passed.live
    (passed_puts old mid seq bytes piece whole rest end passed) (passed_goes old mid seq bytes piece whole rest end passed))
    ∙ by_rest rest passed.front_is
  where
    some : (n : ℕ) → (suc n == 0) ≡ false
    some n = grind (arith, common_steps)

    by_rest : (xs : List ℕ) → mid.held.front ≡ old.held.front + length xs
        → cond (ltb old.held.front mid.held.front) Grew (cond (ltb 0 (length xs)) Kept Old) ≡ cond (length xs == 0) Old Grew
    by_rest [] grown = ap (λ b. cond b Grew Old) (le-ltb old.held.front mid.held.front (omega (arith, grown)))
    by_rest (x ∷ xs) grown =
        ap (λ b. cond b Grew (cond (ltb 0 (length (x ∷ xs))) Kept Old)) (lt-ltb old.held.front mid.held.front (omega (arith, grown)))
        ∙ sym (ap (λ b. cond b Old Grew) (some (length xs)))
