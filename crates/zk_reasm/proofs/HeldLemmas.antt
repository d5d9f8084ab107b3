-- The run and the bytes apart from it: a byte by its place, and how many there are after some were put.
use Rattle.std.proofs.Common.{◌≡◌, ℕ, ◌+◌, ◌-◌, ◌<◌, ◌≤◌, cond, List, ◌++◌, length, Option, None, Some, IsSome, refl, sym, ap, ◌∙◌, ⊎_elim, arith, length-append}
use Rattle.std.specs.Option.{is_some, option_or}
use Rattle.std.proofs.lemmas.Bool.{cases_lt, lt-ltb, le-ltb}
use Rattle.zk_reasm.specs.declared.apart.Apart.{Apart}
use Rattle.zk_reasm.specs.declared.held.Held.{Held}
use Rattle.zk_reasm.specs.declared.place.TheConstants.{PLACES}
use Rattle.zk_base.specs.declared.byte_queue.ByteQueue.{ByteQueue}
use Rattle.zk_reasm.specs.Apart.{byte_apart}
use Rattle.zk_reasm.specs.Between.{held_between}
use Rattle.zk_reasm.specs.Held.{byte_kept, taken_of, Stays}
use Rattle.zk_reasm.specs.Parts.{start_of, byte_held}
use Rattle.zk_reasm.specs.Piece.{byte_in}
use Rattle.zk_base.specs.ByteQueue.{bytes_of, room_of}
use Rattle.zk_reasm.proofs.PieceLemmas.{option_or_none, byte_in-before, byte_in-behind, byte_in-within, byte_in-append}
use Rattle.zk_reasm.proofs.RangeLemmas.{held_between-split, held_between-same, held_between-full, held_between-empty, held_between-le}

pub byte_held-run : (run : ByteQueue) (run_end : ℕ) (apart : Apart) (at : ℕ) → at < run_end → byte_held run run_end apart at ≡ byte_in (start_of run run_end) (bytes_of run) at
unfolding byte_held
byte_held-run run run_end apart at low = ap (λ b. cond b (byte_in (start_of run run_end) (bytes_of run) at) (byte_apart apart at)) (lt-ltb at run_end low)

pub byte_held-apart : (run : ByteQueue) (run_end : ℕ) (apart : Apart) (at : ℕ) → run_end ≤ at → byte_held run run_end apart at ≡ byte_apart apart at
unfolding byte_held
byte_held-apart run run_end apart at low = ap (λ b. cond b (byte_in (start_of run run_end) (bytes_of run) at) (byte_apart apart at)) (le-ltb at run_end low)

-- the same run and the same bytes apart from it
pub byte_held-same : (old new : ByteQueue) (run_end : ℕ) (was is : Apart) → bytes_of new ≡ bytes_of old → ((at : ℕ) → byte_apart is at ≡ byte_apart was at)
    → (at : ℕ) → byte_held new run_end is at ≡ byte_held old run_end was at
byte_held-same old new run_end was is run apart at =
    ⊎_elim
    (λ low. byte_held-run new run_end is at low ∙ ap (λ xs. byte_in (run_end - length xs) xs at) run ∙ sym (byte_held-run old run_end was at low))
    (λ high. byte_held-apart new run_end is at high ∙ apart at ∙ sym (byte_held-apart old run_end was at high))
    (cases_lt at run_end)

-- bytes put behind the run, where nothing lies apart
pub byte_held-appended : (old new : ByteQueue) (run_end end : ℕ) (apart : Apart) (bytes : List ℕ) → length (bytes_of old) ≤ run_end
    → bytes_of new ≡ bytes_of old ++ bytes → end ≡ run_end + length bytes → ((at : ℕ) → byte_apart apart at ≡ None)
    → (at : ℕ) → byte_held new end apart at ≡ option_or (byte_held old run_end apart at) (byte_in run_end bytes at)
byte_held-appended old new run_end end apart bytes within run is nothing at =
    ⊎_elim
    (λ low. byte_held-run new end apart at low
    ∙ ap (λ xs. byte_in (end - length xs) xs at) run
    ∙ ap (λ n. byte_in n (bytes_of old ++ bytes) at) (let e : end - length (bytes_of old ++ bytes) ≡ start_of old run_end = omega (arith, length-append (bytes_of old) bytes, is, within) in e)
    ∙ byte_in-append (start_of old run_end) (bytes_of old) bytes at
    ∙ ap (λ n. option_or (byte_in (start_of old run_end) (bytes_of old) at) (byte_in n bytes at)) (let e : start_of old run_end + length (bytes_of old) ≡ run_end = omega (arith, within) in e)
    ∙ ap (λ o. option_or o (byte_in run_end bytes at)) (before at))
    (λ high. byte_held-apart new end apart at high ∙ nothing at
    ∙ sym (ap (λ o. option_or o (byte_in run_end bytes at)) (byte_held-apart old run_end apart at (omega (arith, high, is))
    ∙ nothing at) ∙ byte_in-behind run_end bytes at (omega (arith, high, is))))
    (cases_lt at end)
  where
    before : (i : ℕ) → byte_in (start_of old run_end) (bytes_of old) i ≡ byte_held old run_end apart i
    before i = ⊎_elim
        (λ low. sym (byte_held-run old run_end apart i low))
        (λ high. byte_in-behind (start_of old run_end) (bytes_of old) i (omega (arith, high, within)) ∙ sym (byte_held-apart old run_end apart i high ∙ nothing i))
        (cases_lt i run_end)

-- bytes put apart from the run
pub byte_held-filled : (run : ByteQueue) (run_end from : ℕ) (was is : Apart) (bytes : List ℕ) → run_end ≤ from
    → ((at : ℕ) → byte_apart is at ≡ option_or (byte_apart was at) (byte_in from bytes at))
    → (at : ℕ) → byte_held run run_end is at ≡ option_or (byte_held run run_end was at) (byte_in from bytes at)
byte_held-filled run run_end from was is bytes behind filled at =
    ⊎_elim
    (λ low. byte_held-run run run_end is at low ∙ sym (byte_held-run run run_end was at low)
    ∙ sym (ap (option_or (byte_held run run_end was at)) (byte_in-before from bytes at (omega (arith, low, behind))) ∙ option_or_none (byte_held run run_end was at)))
    (λ high. byte_held-apart run run_end is at high ∙ filled at ∙ ap (λ o. option_or o (byte_in from bytes at)) (sym (byte_held-apart run run_end was at high)))
    (cases_lt at run_end)

-- how many there are, after bytes were put
pub held_between-added : (f g : ℕ → Option ℕ) (a from end count : ℕ) (bytes : List ℕ)
    → ((at : ℕ) → g at ≡ option_or (f at) (byte_in from bytes at)) → a ≤ from → from + length bytes ≤ end
    → count + held_between f from (from + length bytes) ≡ length bytes → held_between g a end ≡ held_between f a end + count
held_between-added f g a from end count bytes added low within counted =
    let middle = from + length bytes in
    let new_front = held_between-split g a from end low (omega arith) in
    let new_back = held_between-split g from middle end (omega arith) within in
    let old_front = held_between-split f a from end low (omega arith) in
    let old_back = held_between-split f from middle end (omega arith) within in
    let before : held_between g a from ≡ held_between f a from = held_between-same g f a from
    (λ at lo hi. ap is_some (added at ∙ ap (option_or (f at)) (byte_in-before from bytes at hi) ∙ option_or_none (f at))) in
    let behind : held_between g middle end ≡ held_between f middle end = held_between-same g f middle end
    (λ at lo hi. ap is_some (added at ∙ ap (option_or (f at)) (byte_in-behind from bytes at lo) ∙ option_or_none (f at))) in
    let all : held_between g from middle ≡ middle - from = held_between-full g from middle (omega arith)
    (λ at lo hi. ap is_some (added at) ∙ put (f at) (byte_in from bytes at) (byte_in-within from bytes at lo hi)) in
    omega (arith, new_front, new_back, old_front, old_back, before, behind, all, counted)
  where
    put : (o p : Option ℕ) → IsSome p → IsSome (option_or o p)
    put None p there = there
    put (Some x) p there = refl

-- the counts of what is held are right, and the run has room for all that lies apart from it
pub record IsSound (front above kept : ℕ) (run : ByteQueue) (run_end : ℕ) (apart : Apart) : Type 0 where
  pub start : length (bytes_of run) ≤ run_end
  pub end : run_end ≤ PLACES
  pub front_within : front ≤ PLACES
  pub kept_counts : kept ≡ length (bytes_of run) + held_between (byte_apart apart) run_end PLACES
  pub above_counts : above ≡ held_between (byte_held run run_end apart) front PLACES
  pub room : held_between (byte_apart apart) run_end PLACES ≤ room_of run

-- no more bytes than places
pub kept-le : (held : Held) → held.kept ≤ PLACES
kept-le held =
    let apart = held_between-le (byte_apart held.apart) held.run_end PLACES in
    omega (arith, apart, held.kept_counts, held.start, held.«end»)

pub above-le : (held : Held) → held.above ≤ PLACES
above-le held =
    let all = held_between-le (byte_held held.run held.run_end held.apart) held.front PLACES in
    omega (arith, all, held.above_counts)

-- the same counts, with no less room
pub sound_same : (held : Held) (run : ByteQueue) (apart : Apart) → bytes_of run ≡ bytes_of held.run → room_of held.run ≤ room_of run
    → ((at : ℕ) → byte_apart apart at ≡ byte_apart held.apart at) → IsSound held.front held.above held.kept run held.run_end apart
sound_same held run apart bytes room same =
    let len = ap (λ (xs : List ℕ). length xs) bytes in
    let count = held_between-same (byte_apart apart) (byte_apart held.apart) held.run_end PLACES (λ at low high. ap is_some (same at)) in
    record {
      start = omega (arith, len, held.start);
      end = held.«end»;
      front_within = held.front_within;
      kept_counts = omega (arith, len, count, held.kept_counts);
      above_counts = held.above_counts
          ∙ held_between-same (byte_held held.run held.run_end held.apart) (byte_held run held.run_end apart) held.front PLACES
          (λ at low high. ap is_some (sym (byte_held-same held.run run held.run_end held.apart apart bytes same at)));
      room = omega (arith, count, room, held.room);
    }

pub sound_appended : (held : Held) (run : ByteQueue) (end : ℕ) (bytes : List ℕ) → bytes_of run ≡ bytes_of held.run ++ bytes → end ≡ held.run_end + length bytes
    → held.front ≤ held.run_end → end ≤ PLACES → ((at : ℕ) → byte_apart held.apart at ≡ None)
    → IsSound held.front (held.above + length bytes) (held.kept + length bytes) run end held.apart
sound_appended held run end bytes is ends front within nothing =
    let len = ap (λ (xs : List ℕ). length xs) is in
    let more = length-append (bytes_of held.run) bytes in
    let none = held_between-empty (byte_apart held.apart) end PLACES (λ at low high. nothing at) in
    let old_none = held_between-empty (byte_apart held.apart) held.run_end PLACES (λ at low high. nothing at) in
    let free = held_between-empty (byte_held held.run held.run_end held.apart) held.run_end (held.run_end + length bytes)
    (λ at low high. byte_held-apart held.run held.run_end held.apart at low ∙ nothing at) in
    record {
      start = omega (arith, len, more, ends, held.start);
      end = within;
      front_within = held.front_within;
      kept_counts = omega (arith, len, more, none, old_none, held.kept_counts);
      above_counts = ap (λ n. n + length bytes) held.above_counts
          ∙ sym (held_between-added (byte_held held.run held.run_end held.apart) (byte_held run end held.apart) held.front held.run_end PLACES (length bytes) bytes
          (byte_held-appended held.run run held.run_end end held.apart bytes held.start is ends nothing) front (omega (arith, ends, within)) (omega (arith, free)));
      room = omega (arith, none);
    }

pub sound_filled : (held : Held) (apart : Apart) (from count : ℕ) (bytes : List ℕ) → held.run_end ≤ from → held.front ≤ from → from + length bytes ≤ PLACES
    → ((at : ℕ) → byte_apart apart at ≡ option_or (byte_apart held.apart at) (byte_in from bytes at))
    → count + held_between (byte_apart held.apart) from (from + length bytes) ≡ length bytes
    → held_between (byte_apart held.apart) held.run_end PLACES + length bytes ≤ room_of held.run
    → IsSound held.front (held.above + count) (held.kept + count) held.run held.run_end apart
sound_filled held apart from count bytes behind front within filled counted room =
    let more = held_between-added (byte_apart held.apart) (byte_apart apart) held.run_end from PLACES count bytes filled behind within counted in
    let same = held_between-same (byte_held held.run held.run_end held.apart) (byte_apart held.apart) from (from + length bytes)
    (λ at low high. ap is_some (byte_held-apart held.run held.run_end held.apart at (omega (arith, behind, low)))) in
    record {
      start = held.start;
      end = held.«end»;
      front_within = held.front_within;
      kept_counts = omega (arith, more, held.kept_counts);
      above_counts = ap (λ n. n + count) held.above_counts
          ∙ sym (held_between-added (byte_held held.run held.run_end held.apart) (byte_held held.run held.run_end apart) held.front from PLACES count bytes
          (byte_held-filled held.run held.run_end from held.apart apart bytes behind filled) front within (omega (arith, same, counted)));
      room = omega (arith, more, counted, room);
    }

-- nothing lies behind the run where nothing is held
pub nothing_apart : (held : Held) → held.kept ≡ 0 → held_between (byte_apart held.apart) held.run_end PLACES ≡ 0
nothing_apart held nothing = omega (arith, held.kept_counts, nothing)

-- the counts of a front that went past places where nothing is held
pub sound_past : (held : Held) (n : ℕ) → held.kept ≡ 0 → held.run_end ≡ held.front → held.front + n ≤ PLACES
    → IsSound (held.front + n) held.above held.kept held.run (held.run_end + n) held.apart × (held.above ≡ 0)
sound_past held n nothing taken within =
    let none = nothing_apart held nothing in
    let cut = held_between-split (byte_apart held.apart) held.run_end (held.run_end + n) PLACES (omega arith) (omega (arith, taken, within)) in
    let old = held_between-same (byte_held held.run held.run_end held.apart) (byte_apart held.apart) held.front PLACES
    (λ at low high. ap is_some (byte_held-apart held.run held.run_end held.apart at (omega (arith, low, taken)))) in
    let new = held_between-same (byte_held held.run (held.run_end + n) held.apart) (byte_apart held.apart) (held.front + n) PLACES
    (λ at low high. ap is_some (byte_held-apart held.run (held.run_end + n) held.apart at (omega (arith, low, taken)))) in
    let from = ap (λ a. held_between (byte_apart held.apart) a PLACES) taken in
    let from_new = ap (λ a. held_between (byte_apart held.apart) (a + n) PLACES) taken in (
      record {
        start = omega (arith, held.start);
        end = omega (arith, taken, within);
        front_within = within;
        kept_counts = omega (arith, held.kept_counts, nothing, none, cut);
        above_counts = omega (arith, held.above_counts, old, new, from, from_new, none, cut);
        room = omega (arith, none, cut);
      },
      omega (arith, held.above_counts, old, from, none),
    )

-- what a change of room leaves as it was
pub stays_same : (old new : Held) → new.front ≡ old.front → new.above ≡ old.above → new.kept ≡ old.kept → new.run_end ≡ old.run_end
    → bytes_of new.run ≡ bytes_of old.run → ((at : ℕ) → byte_apart new.apart at ≡ byte_apart old.apart at) → Stays old new
unfolding taken_of byte_kept
stays_same old new front above kept run_end run apart = record {
  taken = ap (λ xs. new.run_end - length xs) run ∙ ap (λ n. n - length (bytes_of old.run)) run_end;
  run_end = run_end;
  front = front;
  kept = kept;
  above = above;
  bytes = λ at. ap (λ n. byte_held new.run n new.apart at) run_end ∙ byte_held-same old.run new.run old.run_end old.apart new.apart run apart at;
}

-- how many of the places of a piece had a byte, behind the run
pub held_between-behind : (held : Held) (from n : ℕ) → held.run_end ≤ from → held_between (byte_kept held) from (from + n) ≡ held_between (byte_apart held.apart) from (from + n)
unfolding byte_kept
held_between-behind held from n behind =
    held_between-same (byte_held held.run held.run_end held.apart) (byte_apart held.apart) from (from + n)
    (λ at low high. ap is_some (byte_held-apart held.run held.run_end held.apart at (omega (arith, behind, low))))
