-- What a direction is told, and what all of it names: the end of the payload, of the direction, and what the peer
-- acknowledged (RFC 9293, sections 3.1 and 3.4).
use Rattle.std.specs.Prelude.{ℕ, ◌+◌, max, List, [], map, fold, slice_get, Option, None, Some, unwrap_or}
use Rattle.std.specs.List.{filter_map, flat_map}
use Rattle.zk_reasm.specs.Place.{distance, place, places_of}

pub data Told : Type 0 where
  -- the payload of a segment, from this sequence number on
  Segment : (seq : ℕ) (bytes : List ℕ) → Told
  -- the sequence number of a FIN
  Fin : (seq : ℕ) → Told
  -- an acknowledgement number of the peer
  Ack : (number : ℕ) → Told
  -- the direction takes nothing more
  Stop : Told

-- the greatest of some numbers, and 0 where there is none
abbrev pub greatest : List ℕ → ℕ
greatest numbers = fold max 0 numbers

abbrev pub payload_places : ℕ → Told → List ℕ
payload_places base (Segment seq bytes) = places_of base seq bytes
payload_places base (Fin seq) = []
payload_places base (Ack number) = []
payload_places base Stop = []

abbrev pub fin_named : ℕ → Told → Option ℕ
fin_named base (Segment seq bytes) = None
fin_named base (Fin seq) = Some (distance base seq)
fin_named base (Ack number) = None
fin_named base Stop = None

abbrev pub acknowledged : ℕ → Told → Option ℕ
acknowledged base (Segment seq bytes) = None
acknowledged base (Fin seq) = None
acknowledged base (Ack number) = place base number
acknowledged base Stop = None

-- one past the greatest place of a payload byte
unfoldable pub payload_end : ℕ → List Told → ℕ
payload_end base told = greatest (map (λ at. at + 1) (flat_map (payload_places base) told))

-- the FIN's place: the first FIN names it
unfoldable pub fin_place : ℕ → List Told → Option ℕ
fin_place base told = slice_get (filter_map (fin_named base) told) 0

-- the greatest place that the peer acknowledged
unfoldable pub acked : ℕ → List Told → ℕ
acked base told = greatest (filter_map (acknowledged base) told)

-- the end of what the direction is known to have sent
abbrev pub top : ℕ → List Told → ℕ
top base told = max (payload_end base told) (unwrap_or (fin_place base told) 0)
