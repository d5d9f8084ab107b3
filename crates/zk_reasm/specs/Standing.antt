-- What a stream stands for.
use Rattle.std.specs.Prelude.{◌≡◌, ℕ, ◌≤◌, ◌<◌, false, nat_le, ◌&&◌, List, Option, None, IsSome, if◌then◌else◌}
use Rattle.zk_reasm.specs.declared.place.TheConstants.{PLACES}
use Rattle.zk_reasm.specs.declared.stream.Stream.{Stream}
use Rattle.zk_reasm.specs.Direction.{reach, byte_at, front}
use Rattle.zk_reasm.specs.Held.{byte_kept, taken_of, lent_of}
use Rattle.zk_reasm.specs.Histories.{counted, over_of, front_of, byte_of_stream}
use Rattle.zk_reasm.specs.Told.{Told, payload_end, fin_place, acked}

-- the byte that is held at a place: once the stream is over, none at or past the front
abbrev pub byte_of_kept : ℕ → ℕ → List Told → ℕ → Option ℕ
byte_of_kept base limit told at =
    if over_of base limit told && nat_le (front_of base limit told) at then None else byte_of_stream base limit told at

-- what was told fits together: no byte lies past the payload's end, and as long as all counts, each place from the reach
-- up to the front has its byte
pub record FitsTogether (base limit : ℕ) (told : List Told) : Type 0 where
  pub end : payload_end base (counted base limit told) ≤ PLACES
  pub behind : (at : ℕ) → payload_end base (counted base limit told) ≤ at → byte_of_stream base limit told at ≡ None
  pub order : over_of base limit told ≡ false → reach base told ≤ front base told
  pub covered : over_of base limit told ≡ false → (at : ℕ) → reach base told ≤ at → at < front base told → IsSome (byte_at base told at)

-- The stream goes on as one with this base and limit that was told exactly these entries, and of which so many places were
-- taken or skipped.
pub record StandsFor (stream : Stream) (base limit : ℕ) (told : List Told) (taken : ℕ) : Type 0 where
  pub base_is : stream.base ≡ base
  pub limit_is : stream.limit ≡ limit
  pub fin_is : stream.fin ≡ fin_place base (counted base limit told)
  pub over_is : stream.is_over ≡ over_of base limit told
  pub front_is : stream.held.front ≡ front_of base limit told
  pub acked_is : stream.is_over ≡ false → stream.acked ≡ acked base told
  pub payload_is : stream.is_over ≡ false → stream.payload_end ≡ payload_end base told
  pub taken_is : taken_of stream.held ≡ taken
  pub bytes_are : (at : ℕ) → taken ≤ at → byte_kept stream.held at ≡ byte_of_kept base limit told at
  pub together : FitsTogether base limit told

-- the bytes that a stream lends
unfoldable pub lent : Stream → List ℕ
lent stream = lent_of stream.held
