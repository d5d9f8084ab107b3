-- What the state of a reader says of the places that follow.
use Rattle.std.specs.Prelude.{ℕ, ◌+◌, Bool, true, false, if◌then◌else◌, List, [], length, take}
use Rattle.httparse.specs.Ascii.{line_feed}
use Rattle.zk_base.specs.Places.{Place, gaps, bytes_before_gap}
use Rattle.zk_base.specs.declared.network.Side.{Side}
use Rattle.zk_http.specs.declared.search.Ending.TheVariants as ending
use Rattle.zk_http.specs.declared.state.Part.{Part}
use Rattle.zk_http.specs.declared.state.Part.TheVariants.{Places, ToEnd, Size, Chunk, Return, Feed, Trailer, Tunnel, Unknown}
use Rattle.zk_http.specs.declared.state.Reading.{Reading}
use Rattle.zk_http.specs.declared.state.State.{State}
use Rattle.zk_http.specs.declared.state.State.TheVariants.{Between, Head, Body, Over}
use Rattle.zk_http.specs.declared.units.Reason.TheVariants.{ChunkBad}
use Rattle.zk_http.specs.declared.units.UnitKind.{UnitKind}
use Rattle.zk_http.specs.declared.units.UnitKind.TheVariants as what
use Rattle.zk_http.specs.BodyBytes.{chunked_data, data_behind, data_left}
use Rattle.zk_http.specs.Chunks.{Amount, chunk_line_limit, chunked, line_break, more, trailer}
use Rattle.zk_http.specs.Heads.{head, head_limit}
use Rattle.zk_http.specs.Reads.{Waits, Reads, ◌>>=◌, gives, refuses, any_places, exactly}
use Rattle.zk_http.specs.Search.{Knows}
use Rattle.zk_http.specs.Units.{to_end}

-- ---- what is still to come of a message

abbrev pub amount_of : Reading → Amount
amount_of reading = record { body = reading.body; gap = reading.gap }

-- so many more places of the body, and so many of them gaps, are its end
abbrev pub done_behind : Reading → ℕ → ℕ → Reads UnitKind
done_behind reading places gaps = gives (what.Done (reading.body + places) reading.header (reading.gap + gaps))

-- what is read tells how much the whole body is
abbrev pub done : ℕ → Reads Amount → Reads UnitKind
done header read = read >>= λ amount. gives (what.Done amount.body header amount.gap)

abbrev pub means_in : Part → Reading → Bool → Reads UnitKind
means_in (Places left) reading ended = any_places left >>= done_behind reading left
means_in ToEnd reading ended = to_end ended >>= λ places. done_behind reading (length places) (gaps places)
means_in (Size search) reading ended = done reading.header (chunked (amount_of reading))
means_in (Chunk left) reading ended =
    done reading.header (any_places left >>= λ gaps. line_break >>= λ _. chunked (more left gaps (amount_of reading)))
means_in Return reading ended = done reading.header (line_break >>= λ _. chunked (amount_of reading))
means_in Feed reading ended = done reading.header (exactly line_feed ChunkBad >>= λ _. chunked (amount_of reading))
means_in (Trailer search) reading ended = done reading.header (trailer >>= λ _. gives (amount_of reading))
means_in Tunnel reading ended = gives what.Tunnel
means_in (Unknown why) reading ended = refuses why

-- what the places that follow come to, behind a head
abbrev pub means : Reading → Bool → Reads UnitKind
means reading ended = means_in reading.part reading ended

-- a head, as a unit
abbrev pub head_unit : Side → Reads UnitKind
head_unit side = head side >>= λ found. gives (what.Head found)

-- and within a head
abbrev pub means_at : State → Side → Bool → Reads UnitKind
means_at Between side ended = λ _. Waits 0
means_at (Head search) side ended = head_unit side
means_at (Body reading) side ended = means reading ended
means_at Over side ended = λ _. Waits 0

-- ---- the body among the places that follow

abbrev pub data_from : Part → List Place → List Place
data_from (Places left) places = take left places
data_from ToEnd places = places
data_from (Size search) places = chunked_data places
data_from (Chunk left) places = data_left chunked_data left places
data_from Return places = data_behind (line_break places) (λ _. chunked_data) places
data_from Feed places = data_behind (exactly line_feed ChunkBad places) (λ _. chunked_data) places
data_from (Trailer search) places = []
data_from Tunnel places = []
data_from (Unknown why) places = []

abbrev pub data_at : State → List Place → List Place
data_at Between places = []
data_at (Head search) places = []
data_at (Body reading) places = data_from reading.part places
data_at Over places = []

-- the part holds the body itself, and no line of it
abbrev pub is_data : Part → Bool
is_data (Places left) = true
is_data ToEnd = true
is_data (Size search) = false
is_data (Chunk left) = true
is_data Return = false
is_data Feed = false
is_data (Trailer search) = false
is_data Tunnel = false
is_data (Unknown why) = false

-- what of these places, which a part read, is the body's
abbrev pub data_of_part : Part → List Place → List Place
data_of_part part places = if is_data part then places else []

-- ---- what was looked through

-- the bytes that are searched for an end: those before the first gap, at most so many
abbrev pub searched : ℕ → List Place → List ℕ
searched limit places = take limit (bytes_before_gap places)

-- what a search knows is so of the places that follow
abbrev pub KnowsIn : Part → List Place → Type 0
KnowsIn (Places left) places = Unit {0}
KnowsIn ToEnd places = Unit {0}
KnowsIn (Size search) places = Knows search ending.Line (searched chunk_line_limit places)
KnowsIn (Chunk left) places = Unit {0}
KnowsIn Return places = Unit {0}
KnowsIn Feed places = Unit {0}
KnowsIn (Trailer search) places = Knows search ending.Section (searched head_limit places)
KnowsIn Tunnel places = Unit {0}
KnowsIn (Unknown why) places = Unit {0}

abbrev pub KnowsAt : State → List Place → Type 0
KnowsAt Between places = Unit {0}
KnowsAt (Head search) places = Knows search ending.Head (searched head_limit places)
KnowsAt (Body reading) places = KnowsIn reading.part places
KnowsAt Over places = Unit {0}

-- how many bytes were looked at that were not used
abbrev pub seen_in : Part → ℕ
seen_in (Places left) = 0
seen_in ToEnd = 0
seen_in (Size search) = search.seen
seen_in (Chunk left) = 0
seen_in Return = 0
seen_in Feed = 0
seen_in (Trailer search) = search.seen
seen_in Tunnel = 0
seen_in (Unknown why) = 0

abbrev pub seen_at : State → ℕ
seen_at Between = 0
seen_at (Head search) = search.seen
seen_at (Body reading) = seen_in reading.part
seen_at Over = 0

-- fewer than so many are
abbrev pub bound_in : Part → ℕ
bound_in (Places left) = 1
bound_in ToEnd = 1
bound_in (Size search) = chunk_line_limit
bound_in (Chunk left) = 1
bound_in Return = 1
bound_in Feed = 1
bound_in (Trailer search) = head_limit
bound_in Tunnel = 1
bound_in (Unknown why) = 1

abbrev pub bound_at : State → ℕ
bound_at Between = 1
bound_at (Head search) = head_limit
bound_at (Body reading) = bound_in reading.part
bound_at Over = 1

-- ---- how much of a body was read

abbrev pub body_at : State → ℕ
body_at Between = 0
body_at (Head search) = 0
body_at (Body reading) = reading.body
body_at Over = 0

abbrev pub gap_at : State → ℕ
gap_at Between = 0
gap_at (Head search) = 0
gap_at (Body reading) = reading.gap
gap_at Over = 0

-- ---- where a message stands

pub data Phase : Type 0 where
  -- between two messages
  Apart : Phase
  -- in one
  Inside : Phase
  -- behind all
  Past : Phase

abbrev pub phase_of : State → Phase
phase_of Between = Apart
phase_of (Head search) = Inside
phase_of (Body reading) = Inside
phase_of Over = Past
