-- Where the bytes of one direction stand (RFC 9293, section 3.4: sequence numbers count modulo 2^32). The base is the
-- number of the direction's SYN, and the byte behind it has place 0.
use Rattle.std.specs.Prelude.{ℕ, ◌+◌, ◌-◌, ◌%◌, ◌^◌, nat_lt, List, length, slice_get, Option, None, Some, if◌then◌else◌}
use Rattle.std.specs.List.{filter_map, range_with_len}
use Rattle.zk_reasm.specs.declared.place.TheConstants.{PLACES}

-- how far a number lies ahead of another
abbrev pub ahead : ℕ → ℕ → ℕ
ahead from number = (number + 2 ^ 32 - from) % 2 ^ 32

-- how far a number lies ahead of the one behind the base
abbrev pub distance : ℕ → ℕ → ℕ
distance base number = ahead (base + 1) number

-- the place of a number: none from 2^31 on, where numbers from before the base lie
abbrev pub place : ℕ → ℕ → Option ℕ
place base number = if nat_lt (distance base number) PLACES then Some (distance base number) else None

-- the byte that a segment has at a place: the one whose number has that place
unfoldable pub byte_of : ℕ → ℕ → List ℕ → ℕ → Option ℕ
byte_of base seq bytes at = if nat_lt at PLACES then slice_get bytes (ahead seq (base + 1 + at)) else None

-- the places of the bytes of a segment
unfoldable pub places_of : ℕ → ℕ → List ℕ → List ℕ
places_of base seq bytes = filter_map (λ k. place base (seq + k)) (range_with_len 0 (length bytes))
