-- An acknowledgement number is told to a stream that isn't over.
use Rattle.std.proofs.Common.{◌≡◌, ℕ, ◌≤◌, max, min, Bool, true, false, ltb, List, [], ◌∷◌, ◌++◌, refl, sym, ap, subst, ◌∙◌, arith}
use Rattle.std.specs.Prelude.{unwrap_or}
use Rattle.std.proofs.lemmas.Bool.{le-ltb}
use Rattle.zk_reasm.specs.declared.place.TheConstants.{PLACES}
use Rattle.zk_reasm.specs.declared.stream.Stream.{Stream}
use Rattle.zk_reasm.specs.Direction.{byte_at, front}
use Rattle.zk_reasm.specs.Held.{byte_kept, taken_of}
use Rattle.zk_reasm.specs.Histories.{counted, over_of, front_of, ack_of}
use Rattle.zk_reasm.specs.Judging.{Finishes}
use Rattle.zk_reasm.specs.Parts.{IsFirstFree}
use Rattle.zk_reasm.specs.Place.{place}
use Rattle.zk_reasm.specs.Standing.{StandsFor}
use Rattle.zk_reasm.specs.Told.{Told, Ack, payload_end, acked}
use Rattle.zk_reasm.proofs.ContentLemmas.{kept_live}
use Rattle.zk_reasm.proofs.HistoryLemmas.{counted_live, counted_more, counted_over}
use Rattle.zk_reasm.proofs.PieceLemmas.{option_or_none}
use Rattle.zk_reasm.proofs.StandingLemmas.{Moved, reached_moved}
use Rattle.zk_reasm.proofs.ToldLemmas.{byte_at-append, acked-append, payload_end-append}

-- what the code did
pub record Acks (old mid : Stream) (number named known most : ℕ) : Type 0 where
  pub named_is : named ≡ unwrap_or (place old.base number) 0
  pub base_is : mid.base ≡ old.base
  pub limit_is : mid.limit ≡ old.limit
  pub fin_is : mid.fin ≡ old.fin
  pub over_is : mid.is_over ≡ old.is_over
  pub acked_is : mid.acked ≡ max old.acked named
  pub payload_is : mid.payload_end ≡ old.payload_end
  pub bytes_are : (at : ℕ) → taken_of old.held ≤ at → byte_kept mid.held at ≡ byte_kept old.held at
  pub taken_is : taken_of mid.held ≡ taken_of old.held
  pub known_is : known ≡ min mid.acked (max mid.payload_end (unwrap_or mid.fin 0))
  pub most_is : most ≡ max old.held.front (min PLACES (unwrap_or mid.fin PLACES))
  pub front_moves : (free : ℕ) → IsFirstFree (byte_kept old.held) (max old.held.front known) free → mid.held.front ≡ min free most

pub ack_moved : (old mid : Stream) (base limit : ℕ) (told : List Told) (taken number named known most : ℕ) → StandsFor old base limit told taken → old.is_over ≡ false
    → Acks old mid number named known most → Moved old mid base told (Ack number) taken taken (byte_kept old.held) known most
ack_moved old mid base limit told taken number named known most stands on acks = record {
  base_is = acks.base_is;
  limit_is = acks.limit_is;
  fin_is = acks.fin_is;
  live = acks.over_is ∙ on;
  moves_is = refl;
  no_fin = refl;
  no_stop = refl;
  acked_is = acks.acked_is ∙ ap (λ n. max n named) (stands.acked_is on)
      ∙ ap (max (acked base told)) (acks.named_is ∙ ap (λ b. unwrap_or (place b number) 0) stands.base_is) ∙ sym (acked-append base told (Ack number));
  payload_is = acks.payload_is ∙ stands.payload_is on ∙ sym payload_same;
  taken_is = acks.taken_is ∙ stands.taken_is;
  more = omega arith;
  low = omega arith;
  held = λ at low. acks.bytes_are at (omega (arith, low, stands.taken_is));
  bytes_are = λ at low. stands.bytes_are at low ∙ kept_live base limit told at over_false ∙ ap (λ xs. byte_at base xs at) counts ∙ sym (byte_same at);
  known_is = acks.known_is;
  most_is = acks.most_is;
  front_moves = acks.front_moves;
  end = subst (λ n. n ≤ PLACES) (ap (payload_end base) counts ∙ sym payload_same) stands.together.«end»;
  behind = λ at past. byte_same at ∙ ap (λ xs. byte_at base xs at) (sym counts)
      ∙ stands.together.behind at (subst (λ n. n ≤ at) (payload_same ∙ ap (payload_end base) (sym counts)) past);
}
  where
    over_false : over_of base limit told ≡ false
    over_false = sym stands.over_is ∙ on

    counts : counted base limit told ≡ told
    counts = counted_live base limit told over_false

    payload_same : payload_end base (told ++ Ack number ∷ []) ≡ payload_end base told
    payload_same = payload_end-append base told (Ack number) ∙ (let e : max (payload_end base told) 0 ≡ payload_end base told = omega arith in e)

    byte_same : (at : ℕ) → byte_at base (told ++ Ack number ∷ []) at ≡ byte_at base told at
    byte_same at = byte_at-append base told (Ack number) at ∙ option_or_none (byte_at base told at)

-- whether the front grew
pub ack_answer : (old mid new : Stream) (base limit : ℕ) (told : List Told) (taken number named known most : ℕ) (over : Bool) → Finishes mid new over
    → StandsFor old base limit told taken → old.is_over ≡ false → Acks old mid number named known most
    → ltb old.held.front new.held.front ≡ ack_of base limit told number
ack_answer old mid new base limit told taken number named known most over finishes stands on acks =
    let moved = ack_moved old mid base limit told taken number named known most stands on acks in
    let reached = reached_moved old mid base limit told (Ack number) taken taken (byte_kept old.held) known most stands on moved in
    ap (λ n. ltb n new.held.front) stands.front_is
    ∙ ap (ltb (front_of base limit told)) (finishes.front ∙ reached.front_is ∙ ap (front base) (sym (counted_more base limit told (Ack number) (sym stands.over_is ∙ on))))

-- it doesn't where the stream is over
pub ack_over : (old : Stream) (base limit : ℕ) (told : List Told) (taken number : ℕ) → StandsFor old base limit told taken → old.is_over ≡ true → false ≡ ack_of base limit told number
ack_over old base limit told taken number stands over =
    sym (ap (λ xs. ltb (front_of base limit told) (front base xs)) (counted_over base limit told (Ack number) (sym stands.over_is ∙ over))
    ∙ le-ltb (front_of base limit told) (front_of base limit told) (omega arith))
