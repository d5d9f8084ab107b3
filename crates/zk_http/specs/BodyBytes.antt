-- The bytes of a message's body: those at the places that count as the body, in their order. Gaps are left out (RFC 9112,
-- sections 6.3 and 7.1).
use Rattle.std.specs.Prelude.{ℕ, zero, suc, ◌+◌, ◌≤◌, List, [], ◌++◌, length, take, drop, filter_map}
use Rattle.zk_base.specs.Places.{Place}
use Rattle.zk_base.specs.declared.network.Side.{Side}
use Rattle.zk_http.specs.declared.body.Body.{Body}
use Rattle.zk_http.specs.declared.body.Body.TheVariants.{Empty, Length, Chunked, ToEnd, Tunnels, Unknown}
use Rattle.zk_http.specs.declared.units.«Unit».{«Unit» as MessageUnit}
use Rattle.zk_http.specs.Cases.{Case, Before, Within, Held, Over, case_of}
use Rattle.zk_http.specs.Chunks.{chunk_line, line_break}
use Rattle.zk_http.specs.Growth.{GoesOn, Grows}
use Rattle.zk_http.specs.Places.{Stream, Both, of_side}
use Rattle.zk_http.specs.Reads.{Answer, Waits, Gives, Refuses}
use Rattle.zk_http.specs.Units.{place}

-- ---- the data of chunks, whole or not, where the lines before it are there

-- the data behind a form that is there; where it isn't, there is none
abbrev pub data_behind : {A : Type 0} → Answer A → (A → List Place → List Place) → List Place → List Place
data_behind (Waits used) data_of places = []
data_behind (Gives used value) data_of places = data_of value (drop used places)
data_behind (Refuses used why) data_of places = []

-- the data of a chunk of which so many places are left, and of the chunks behind its line end
abbrev pub data_left : (List Place → List Place) → ℕ → List Place → List Place
data_left others left places = take left places ++ data_behind (line_break (drop left places)) (λ _. others) (drop left places)

-- the data of a chunk of this size, and of those behind it; the last one, of size 0, has none
abbrev pub data_of_size : (List Place → List Place) → ℕ → List Place → List Place
data_of_size others zero places = []
data_of_size others (suc n) places = data_left others (suc n) places

-- at most so many chunks
abbrev pub data_of_chunks : ℕ → List Place → List Place
data_of_chunks zero places = []
data_of_chunks (suc count) places = data_behind (chunk_line places) (data_of_size (data_of_chunks count)) places

-- a chunk takes at least a place
unfoldable pub chunked_data : List Place → List Place
chunked_data places = data_of_chunks (length places + 1) places

-- ---- bodies

-- the places of a body, among those that follow its head
abbrev pub data_in : Body → List Place → List Place
data_in Empty places = []
data_in (Length n) places = take n places
data_in Chunked places = chunked_data places
data_in ToEnd places = places
data_in Tunnels places = []
data_in (Unknown why) places = []

-- those among the places that follow a side's last unit, by where the side stands
abbrev pub data_by : Case → List Place → List Place
data_by Before places = []
data_by (Within body) places = data_in body places
data_by Held places = []
data_by Over places = []

-- the places behind a side's last unit that are among the first n of its stream
abbrev pub first_places : ℕ → Stream → List MessageUnit → List Place
first_places n stream units = drop (place units) (take n stream.places)

-- the places of the body that a side is in, as far as the first n of its stream hold them
unfoldable pub body_places : ℕ → Side → Both Stream → Both (List MessageUnit) → List Place
body_places n side streams units = data_by (case_of side units) (first_places n (of_side side streams) (of_side side units))

-- the bytes at some places, gaps left out
abbrev pub bytes_at : List Place → List ℕ
bytes_at places = filter_map (λ place. place) places

-- the bytes of the body that a side is in, as far as the first n places of its stream hold them
abbrev pub body_bytes : ℕ → Side → Both Stream → Both (List MessageUnit) → List ℕ
body_bytes n side streams units = bytes_at (body_places n side streams units)

-- ---- laws

-- What has come of a body stays when its stream grows, and goes on with more places.
abbrev pub BodiesGrow : Type 0
BodiesGrow =
    (side : Side) (early late : Both Stream) (units : Both (List MessageUnit)) (n m : ℕ) → Grows (of_side side early) (of_side side late) → n ≤ m
    → GoesOn (body_places n side early units) (body_places m side late units)
