-- One direction put together, as long as all that it is told counts.
use Rattle.std.specs.Prelude.{ℕ, ◌+◌, min, nat_le, Bool, true, false, List, [], ◌∷◌, ◌++◌, map, slice_get, Option, None, Some, is_some, if◌then◌else◌}
use Rattle.std.specs.List.{filter_map, prefix_len}
use Rattle.zk_reasm.specs.Between.{places_between, held_between}
use Rattle.zk_reasm.specs.Place.{byte_of}
use Rattle.zk_reasm.specs.Told.{Told, Segment, Fin, Ack, Stop, greatest, payload_end, fin_place, acked, top}

-- one of the entries, and those before it
pub record Step : Type 0 where
  pub before : List Told
  pub entry : Told

abbrev pub so_far : Step → List Told
so_far step = step.before ++ step.entry ∷ []

abbrev pub steps_behind : List Told → List Told → List Step
steps_behind before [] = []
steps_behind before (entry ∷ rest) = record { before = before; entry = entry } ∷ steps_behind (before ++ entry ∷ []) rest

-- each of the entries with those before it
unfoldable pub steps : List Told → List Step
steps told = steps_behind [] told

-- Whether an entry can move the front: a segment or an acknowledgement. A FIN is told ahead of its own segment, and
-- counts from that on.
abbrev pub moves : Told → Bool
moves (Segment seq bytes) = true
moves (Fin seq) = false
moves (Ack number) = true
moves Stop = false

-- what the peer acknowledged of that which is known to have been sent
abbrev pub reach_then : ℕ → Step → ℕ
reach_then base step = if moves step.entry then min (acked base (so_far step)) (top base (so_far step)) else 0

-- the reach: the places below it are not taken any more
unfoldable pub reach : ℕ → List Told → ℕ
reach base told = greatest (map (reach_then base) (steps told))

-- the byte that an entry has at a place, where its bytes count from this place on
abbrev pub byte_from : ℕ → ℕ → Told → ℕ → Option ℕ
byte_from base least (Segment seq bytes) at = if nat_le least at then byte_of base seq bytes at else None
byte_from base least (Fin seq) at = None
byte_from base least (Ack number) at = None
byte_from base least Stop at = None

-- the byte that an entry puts at a place, which may have one already
abbrev pub byte_put : ℕ → Step → ℕ → Option ℕ
byte_put base step at = byte_from base (reach base step.before) step.entry at

-- the byte at a place: that of the first segment that has it, if the place wasn't below the reach before that segment
unfoldable pub byte_at : ℕ → List Told → ℕ → Option ℕ
byte_at base told at = slice_get (filter_map (λ step. byte_put base step at) (steps told)) 0

-- the least place at or above the reach that has no byte
unfoldable pub run_end : ℕ → List Told → ℕ
run_end base told =
    reach base told + prefix_len is_some (places_between (byte_at base told) (reach base told) (payload_end base told))

-- a place, but at most the FIN's
abbrev pub up_to_fin : ℕ → Option ℕ → ℕ
up_to_fin at None = at
up_to_fin at (Some fin) = min at fin

abbrev pub front_then : ℕ → Step → ℕ
front_then base step = if moves step.entry then up_to_fin (run_end base (so_far step)) (fin_place base (so_far step)) else 0

-- the front, which never falls: each place below it has its byte or is a gap
unfoldable pub front : ℕ → List Told → ℕ
front base told = greatest (map (front_then base) (steps told))

-- how many bytes lie above the front
unfoldable pub above : ℕ → List Told → ℕ
above base told = held_between (byte_at base told) (front base told) (payload_end base told)
