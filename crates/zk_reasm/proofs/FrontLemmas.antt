-- What is held where the front moves, bytes move to the run, and bytes are taken, passed or dropped.
use Rattle.std.proofs.Common.{◌≡◌, ℕ, ◌+◌, ◌-◌, ◌<◌, ◌≤◌, max, min, List, ◌++◌, length, drop, Option, None, IsSome, sym, ap, ◌∙◌, ⊎_elim, arith, length-append, length-drop}
use Rattle.std.specs.Option.{is_some, option_or}
use Rattle.std.proofs.lemmas.Bool.{cases_lt, false≢true}
use Rattle.zk_reasm.specs.declared.apart.Apart.{Apart}
use Rattle.zk_reasm.specs.declared.held.Held.{Held}
use Rattle.zk_reasm.specs.declared.place.TheConstants.{PLACES}
use Rattle.zk_base.specs.declared.byte_queue.ByteQueue.{ByteQueue}
use Rattle.zk_reasm.specs.Apart.{byte_apart}
use Rattle.zk_reasm.specs.Between.{held_between, bytes_between}
use Rattle.zk_reasm.specs.Parts.{start_of, byte_held, IsFirstFree}
use Rattle.zk_reasm.specs.Piece.{byte_in}
use Rattle.zk_base.specs.ByteQueue.{bytes_of, room_of}
use Rattle.zk_reasm.proofs.HeldLemmas.{byte_held-run, byte_held-apart, IsSound}
use Rattle.zk_reasm.proofs.PieceLemmas.{option_or_held, byte_in-behind, byte_in-within, byte_in-append, byte_in-drop}
use Rattle.zk_reasm.proofs.RangeLemmas.{held_between-split, held_between-same, held_between-full, held_between-empty, length-bytes_between, byte_in-bytes_between}

-- a function has one first place without a byte
pub one_first_free : (f : ℕ → Option ℕ) (from a b : ℕ) → IsFirstFree f from a → IsFirstFree f from b → a ≡ b
one_first_free f from a b is also =
    ⊎_elim
    (λ low. absurd (false≢true (sym (ap is_some is.none) ∙ also.before a is.least low)))
    (λ low. ⊎_elim
    (λ high. absurd (false≢true (sym (ap is_some also.none) ∙ is.before b also.least high)))
    (λ high. let e : a ≡ b = omega (arith, low, high) in e)
    (cases_lt b a))
    (cases_lt a b)

-- a byte of the run
pub held_in_run : (held : Held) (at : ℕ) → start_of held.run held.run_end ≤ at → at < held.run_end → IsSome (byte_held held.run held.run_end held.apart at)
held_in_run held at low high =
    ap is_some (byte_held-run held.run held.run_end held.apart at high)
    ∙ byte_in-within (start_of held.run held.run_end) (bytes_of held.run) at low (omega (arith, high, held.start))

-- The front passes bytes of the run, then the places up to the reach, then bytes that follow.
pub passed_counts : (held : Held) (reach most known start free front gaps count : ℕ) → start_of held.run held.run_end ≤ held.front
    → known ≡ max held.front held.run_end → start ≡ max known reach → start ≤ free → free ≤ PLACES
    → ((at : ℕ) → start ≤ at → at < free → IsSome (byte_apart held.apart at)) → known ≤ most → front ≡ min free most → gaps ≡ min start front
    → count ≡ held_between (byte_apart held.apart) known gaps
    → known - held.front + count + (front - gaps) + held_between (byte_held held.run held.run_end held.apart) front PLACES ≡ held.above
passed_counts held reach most known start free front gaps count taken known_is start_is least within before most_is front_is gaps_is counted =
    let f = byte_held held.run held.run_end held.apart in
    let cut_known = held_between-split f held.front known PLACES (omega arith) (omega arith) in
    let cut_gaps = held_between-split f known gaps PLACES (omega arith) (omega arith) in
    let cut_front = held_between-split f gaps front PLACES (omega arith) (omega arith) in
    let run = held_between-full f held.front known (omega arith) (λ at low high. held_in_run held at (omega (arith, low, taken)) (omega (arith, low, high, known_is))) in
    let middle = held_between-same f (byte_apart held.apart) known gaps (λ at low high. ap is_some (byte_held-apart held.run held.run_end held.apart at (omega (arith, low, known_is)))) in
    let follow = held_between-full f gaps front (omega arith)
    (λ at low high. ap is_some (byte_held-apart held.run held.run_end held.apart at (omega (arith, low, high, known_is, start_is, gaps_is)))
    ∙ before at (omega (arith, low, high, gaps_is)) (omega (arith, high, front_is))) in
    omega (arith, cut_known, cut_gaps, cut_front, run, middle, follow, counted, held.above_counts)

-- the first place without a byte, where the run's own places are passed
pub first_free_of : (held : Held) (reach known start free : ℕ) → start_of held.run held.run_end ≤ held.front
    → known ≡ max held.front held.run_end → start ≡ max known reach → start ≤ free
    → ((at : ℕ) → start ≤ at → at < free → IsSome (byte_apart held.apart at)) → byte_apart held.apart free ≡ None
    → IsFirstFree (byte_held held.run held.run_end held.apart) (max held.front reach) free
first_free_of held reach known start free taken known_is start_is least before none = record {
  least = omega arith;
  before = λ at low high. ⊎_elim
      (λ in_run. held_in_run held at (omega (arith, low, taken)) in_run)
      (λ behind. ap is_some (byte_held-apart held.run held.run_end held.apart at behind) ∙ before at (omega (arith, low, behind, known_is, start_is)) high)
      (cases_lt at held.run_end);
  none = byte_held-apart held.run held.run_end held.apart free (omega arith) ∙ none;
}

pub sound_passed : (held : Held) (front above : ℕ) → front ≤ PLACES → above ≡ held_between (byte_held held.run held.run_end held.apart) front PLACES
    → IsSound front above held.kept held.run held.run_end held.apart
sound_passed held front above within counts = record {
  start = held.start;
  end = held.«end»;
  front_within = within;
  kept_counts = held.kept_counts;
  above_counts = counts;
  room = held.room;
}

-- Bytes moved to the run.
pub record Moves (held : Held) (run : ByteQueue) (end : ℕ) (apart : Apart) : Type 0 where
  pub order : held.run_end ≤ end
  pub within : end ≤ held.front
  pub bytes : bytes_of run ≡ bytes_of held.run ++ bytes_between (byte_apart held.apart) held.run_end end
  pub room : room_of held.run ≤ room_of run + (end - held.run_end)
  pub had : (at : ℕ) → held.run_end ≤ at → at < end → IsSome (byte_apart held.apart at)
  pub behind : (at : ℕ) → end ≤ at → byte_apart apart at ≡ byte_apart held.apart at

moved_length : (held : Held) (run : ByteQueue) (end : ℕ) (apart : Apart) → Moves held run end apart → length (bytes_of run) ≡ length (bytes_of held.run) + (end - held.run_end)
moved_length held run end apart moves =
    let n = end - held.run_end in
    let is : end ≡ held.run_end + n = omega (arith, moves.order) in
    let each = length-bytes_between (byte_apart held.apart) held.run_end n (λ at low high. moves.had at low (omega (arith, high, is))) in
    let same = ap (λ b. length (bytes_between (byte_apart held.apart) held.run_end b)) is in
    let joined = length-append (bytes_of held.run) (bytes_between (byte_apart held.apart) held.run_end end) in
    let bytes = ap (λ (xs : List ℕ). length xs) moves.bytes in
    omega (arith, each, same, joined, bytes)

pub start_of-moved : (held : Held) (run : ByteQueue) (end : ℕ) (apart : Apart) → Moves held run end apart → start_of run end ≡ start_of held.run held.run_end
start_of-moved held run end apart moves = let len = moved_length held run end apart moves in omega (arith, len, moves.order, held.start)

pub byte_held-moved : (held : Held) (run : ByteQueue) (end : ℕ) (apart : Apart) → Moves held run end apart → (at : ℕ) → start_of held.run held.run_end ≤ at
    → byte_held run end apart at ≡ byte_held held.run held.run_end held.apart at
byte_held-moved held run end apart moves at low =
    ⊎_elim
    (λ inside. byte_held-run run end apart at inside
    ∙ ap (λ s. byte_in s (bytes_of run) at) (start_of-moved held run end apart moves)
    ∙ ap (λ xs. byte_in start xs at) moves.bytes
    ∙ byte_in-append start (bytes_of held.run) moved at
    ∙ ap (λ s. option_or (byte_in start (bytes_of held.run) at) (byte_in s moved at)) (let e : start + length (bytes_of held.run) ≡ held.run_end = omega (arith, held.start) in e)
    ∙ ⊎_elim
    (λ before. option_or_held (byte_in start (bytes_of held.run) at) (byte_in held.run_end moved at)
    (byte_in-within start (bytes_of held.run) at low (omega (arith, before, held.start)))
    ∙ sym (byte_held-run held.run held.run_end held.apart at before))
    (λ behind. ap (λ o. option_or o (byte_in held.run_end moved at)) (byte_in-behind start (bytes_of held.run) at (omega (arith, behind, held.start)))
    ∙ there behind inside ∙ sym (byte_held-apart held.run held.run_end held.apart at behind))
    (cases_lt at held.run_end))
    (λ outside. byte_held-apart run end apart at outside ∙ moves.behind at outside
    ∙ sym (byte_held-apart held.run held.run_end held.apart at (omega (arith, outside, moves.order))))
    (cases_lt at end)
  where
    start : ℕ
    start = start_of held.run held.run_end

    moved : List ℕ
    moved = bytes_between (byte_apart held.apart) held.run_end end

    there : held.run_end ≤ at → at < end → byte_in held.run_end moved at ≡ byte_apart held.apart at
    there behind inside =
        let n = end - held.run_end in
        let is : end ≡ held.run_end + n = omega (arith, moves.order) in
        ap (λ b. byte_in held.run_end (bytes_between (byte_apart held.apart) held.run_end b) at) is
        ∙ byte_in-bytes_between (byte_apart held.apart) held.run_end n (λ i from to. moves.had i from (omega (arith, to, is))) at behind (omega (arith, inside, is))

pub sound_moved : (held : Held) (run : ByteQueue) (end : ℕ) (apart : Apart) → Moves held run end apart → IsSound held.front held.above held.kept run end apart
sound_moved held run end apart moves =
    let len = moved_length held run end apart moves in
    let cut = held_between-split (byte_apart held.apart) held.run_end end PLACES moves.order (omega (arith, moves.within, held.front_within)) in
    let full = held_between-full (byte_apart held.apart) held.run_end end moves.order moves.had in
    let rest = held_between-same (byte_apart apart) (byte_apart held.apart) end PLACES (λ at low high. ap is_some (moves.behind at low)) in
    record {
      start = omega (arith, len, moves.order, held.start);
      end = omega (arith, moves.within, held.front_within);
      front_within = held.front_within;
      kept_counts = omega (arith, len, cut, full, rest, held.kept_counts);
      above_counts = held.above_counts
          ∙ sym (held_between-same (byte_held run end apart) (byte_held held.run held.run_end held.apart) held.front PLACES
          (λ at low high. ap is_some (byte_held-moved held run end apart moves at (omega (arith, low, moves.order, moves.within)))));
      room = omega (arith, cut, full, rest, moves.room, held.room);
    }

-- What lies at or past the front is dropped.
pub sound_cut : (held : Held) (apart : Apart) → held.run_end ≤ held.front → ((at : ℕ) → at < held.front → byte_apart apart at ≡ byte_apart held.apart at)
    → ((at : ℕ) → held.front ≤ at → byte_apart apart at ≡ None)
    → (held.above ≤ held.kept) × IsSound held.front 0 (held.kept - held.above) held.run held.run_end apart
sound_cut held apart order below above =
    let old = byte_apart held.apart in
    let new = byte_apart apart in
    let old_cut = held_between-split old held.run_end held.front PLACES order held.front_within in
    let new_cut = held_between-split new held.run_end held.front PLACES order held.front_within in
    let same = held_between-same new old held.run_end held.front (λ at low high. ap is_some (below at high)) in
    let none = held_between-empty new held.front PLACES (λ at low high. above at low) in
    let dropped : held.above ≡ held_between old held.front PLACES = held.above_counts
    ∙ held_between-same (byte_held held.run held.run_end held.apart) old held.front PLACES
    (λ at low high. ap is_some (byte_held-apart held.run held.run_end held.apart at (omega (arith, low, order)))) in (
      omega (arith, old_cut, dropped, held.kept_counts),
      record {
        start = held.start;
        end = held.«end»;
        front_within = held.front_within;
        kept_counts = omega (arith, old_cut, new_cut, same, none, dropped, held.kept_counts);
        above_counts = sym (held_between-empty (byte_held held.run held.run_end apart) held.front PLACES
            (λ at low high. byte_held-apart held.run held.run_end apart at (omega (arith, low, order)) ∙ above at low));
        room = omega (arith, old_cut, new_cut, same, none, held.room);
      },
    )

-- Bytes of the run are taken.
pub byte_held-taken : (held : Held) (run : ByteQueue) (n : ℕ) → bytes_of run ≡ drop n (bytes_of held.run) → n ≤ length (bytes_of held.run)
    → (at : ℕ) → start_of held.run held.run_end + n ≤ at → byte_held run held.run_end held.apart at ≡ byte_held held.run held.run_end held.apart at
byte_held-taken held run n bytes enough at low =
    ⊎_elim
    (λ inside. byte_held-run run held.run_end held.apart at inside
    ∙ ap (λ xs. byte_in (held.run_end - length xs) xs at) bytes
    ∙ ap (λ s. byte_in s (drop n (bytes_of held.run)) at)
    (let e : held.run_end - length (drop n (bytes_of held.run)) ≡ start_of held.run held.run_end + n = omega (arith, length-drop n (bytes_of held.run), enough, held.start) in e)
    ∙ byte_in-drop (start_of held.run held.run_end) n (bytes_of held.run) at low
    ∙ sym (byte_held-run held.run held.run_end held.apart at inside))
    (λ outside. byte_held-apart run held.run_end held.apart at outside ∙ sym (byte_held-apart held.run held.run_end held.apart at outside))
    (cases_lt at held.run_end)

pub sound_taken : (held : Held) (run : ByteQueue) (n : ℕ) → bytes_of run ≡ drop n (bytes_of held.run) → room_of held.run ≤ room_of run → n ≤ length (bytes_of held.run)
    → start_of held.run held.run_end + n ≤ held.front
    → (n ≤ held.kept) × IsSound held.front held.above (held.kept - n) run held.run_end held.apart
sound_taken held run n bytes room enough front =
    let len = ap (λ (xs : List ℕ). length xs) bytes in
    let dropped = length-drop n (bytes_of held.run) in (
      omega (arith, enough, held.kept_counts),
      record {
        start = omega (arith, len, dropped, held.start);
        end = held.«end»;
        front_within = held.front_within;
        kept_counts = omega (arith, len, dropped, enough, held.kept_counts);
        above_counts = held.above_counts
            ∙ sym (held_between-same (byte_held run held.run_end held.apart) (byte_held held.run held.run_end held.apart) held.front PLACES
            (λ at low high. ap is_some (byte_held-taken held run n bytes enough at (omega (arith, low, front)))));
        room = omega (arith, room, held.room);
      },
    )

-- Places without a byte are passed.
pub sound_skipped : (held : Held) (end : ℕ) → length (bytes_of held.run) ≡ 0 → held.run_end ≤ end → end ≤ held.front
    → ((at : ℕ) → held.run_end ≤ at → at < end → byte_held held.run held.run_end held.apart at ≡ None)
    → IsSound held.front held.above held.kept held.run end held.apart
sound_skipped held end empty order front none =
    let cut = held_between-split (byte_apart held.apart) held.run_end end PLACES order (omega (arith, front, held.front_within)) in
    let nothing = held_between-empty (byte_apart held.apart) held.run_end end
    (λ at low high. sym (byte_held-apart held.run held.run_end held.apart at low) ∙ none at low high) in
    record {
      start = omega (arith, empty);
      end = omega (arith, front, held.front_within);
      front_within = held.front_within;
      kept_counts = omega (arith, cut, nothing, held.kept_counts);
      above_counts = held.above_counts
          ∙ held_between-same (byte_held held.run held.run_end held.apart) (byte_held held.run end held.apart) held.front PLACES
          (λ at low high. ap is_some (byte_held-apart held.run held.run_end held.apart at (omega (arith, low, front, order))
          ∙ sym (byte_held-apart held.run end held.apart at (omega (arith, low, front)))));
      room = omega (arith, cut, nothing, held.room);
    }
