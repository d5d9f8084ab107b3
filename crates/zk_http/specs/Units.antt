-- The units of both sides, from the streams as far as their fronts have come.
use Rattle.std.specs.Prelude.{ℕ, ◌+◌, ◌-◌, Bool, true, false, nat_lt, nat_le, if◌then◌else◌, List, [], ◌∷◌, ◌++◌, length, take, drop, Option, None, Some}
use Rattle.std.specs.List.{last_or}
use Rattle.zk_base.specs.declared.network.Side.{Side}
use Rattle.zk_base.specs.declared.network.Side.TheVariants.{Orig, Resp}
use Rattle.zk_http.specs.declared.units.Reason.{Reason}
use Rattle.zk_http.specs.declared.units.Reason.TheVariants as reason
use Rattle.zk_http.specs.declared.units.«Unit».{«Unit» as MessageUnit}
use Rattle.zk_http.specs.declared.units.UnitKind.{UnitKind}
use Rattle.zk_http.specs.declared.units.UnitKind.TheVariants.{Head, Done, Tunnel, Violation}
use Rattle.zk_http.specs.declared.body.Body.{Body}
use Rattle.zk_http.specs.declared.body.Body.TheVariants.{Empty, Length, Chunked, ToEnd, Tunnels, Unknown}
use Rattle.zk_http.specs.Cases.{Case, Before, Within, Held, Over, case_of}
use Rattle.zk_http.specs.Chunks.{chunked}
use Rattle.zk_http.specs.Heads.{head}
use Rattle.zk_http.specs.Lines.{text_length}
use Rattle.zk_base.specs.Places.{Place, gaps, bytes_before_gap}
use Rattle.zk_http.specs.Places.{Stream, Both, of_side}
use Rattle.zk_http.specs.Reads.{Answer, Waits, Gives, Refuses, Reads, ◌>>=◌, gives, refuses, any_places, used_in}

-- ---- the next unit

-- all places, once the side has ended
abbrev pub to_end : Bool → Reads (List Place)
to_end ended places = if ended then Gives (length places) places else Waits (length places)

-- so many places may wait for the other side
abbrev pub waiting_limit : ℕ
waiting_limit = 65536

abbrev pub held : Reads UnitKind
held places = if nat_lt waiting_limit (length places) then Refuses (waiting_limit + 1) reason.Unpaired else Waits 0

abbrev pub decide_body : Body → ℕ → Bool → Reads UnitKind
decide_body Empty header ended = gives (Done 0 header 0)
decide_body (Length n) header ended = any_places n >>= λ gap. gives (Done n header gap)
decide_body Chunked header ended = chunked (record { body = 0; gap = 0 }) >>= λ amount. gives (Done amount.body header amount.gap)
decide_body ToEnd header ended = to_end ended >>= λ places. gives (Done (length places) header (gaps places))
decide_body Tunnels header ended = gives Tunnel
decide_body (Unknown why) header ended = refuses why

-- what the places that follow come to; `header` is the length of the head before them
abbrev pub decide : Side → Case → ℕ → Bool → Reads UnitKind
decide side Before header ended = head side >>= λ head. gives (Head head)
decide side (Within body) header ended = decide_body body header ended
decide side Held header ended = held
decide side Over header ended = λ places. Waits (length places)

abbrev pub unit_at : ℕ → Answer UnitKind → Option MessageUnit
unit_at place (Waits used) = None
unit_at place (Gives used what) = Some (record { place = place + used; what = what })
unit_at place (Refuses used why) = Some (record { place = place + used; what = Violation why })

abbrev pub place_behind : Option MessageUnit → ℕ
place_behind None = 0
place_behind (Some unit) = unit.place

-- where the side's last unit ended
abbrev pub place : List MessageUnit → ℕ
place units = place_behind (last_or None units)

-- how many bytes the lines have that stand between the last two units
abbrev pub header_length : Stream → List MessageUnit → ℕ
header_length stream units =
    text_length (bytes_before_gap (drop (place (take (length units - 1) units)) (take (place units) stream.places)))

-- the next unit of a stream, if it frees one, by what comes next and the units of the side
abbrev pub next_in : Stream → Side → Case → List MessageUnit → Option MessageUnit
next_in stream side case units =
    if nat_le (place units) (length stream.places)
    then unit_at (place units) (decide side case (header_length stream units) stream.ended (drop (place units) stream.places))
    else None

-- the next unit of a side, if the streams free one, behind the units of both sides
unfoldable pub next : Side → Both Stream → Both (List MessageUnit) → Option MessageUnit
next side streams units = next_in (of_side side streams) side (case_of side units) (of_side side units)

-- the places of a side that are not read yet, where it has no further unit: a head, a chunk's line or a trailer that isn't whole,
-- or what waits for the other side
abbrev pub unread_in : Stream → Side → Case → List MessageUnit → List Place
unread_in stream side case units =
    let read = used_in (decide side case (header_length stream units) stream.ended (drop (place units) stream.places)) in
    drop (place units + read) stream.places

unfoldable pub unread : Side → Both Stream → Both (List MessageUnit) → List Place
unread side streams units = unread_in (of_side side streams) side (case_of side units) (of_side side units)

-- ---- units, one after another

abbrev pub is_unpaired_reason : Reason → Bool
is_unpaired_reason reason.HeadTooLong = false
is_unpaired_reason reason.HeadBad = false
is_unpaired_reason reason.TooManyHeaders = false
is_unpaired_reason reason.LengthBad = false
is_unpaired_reason reason.CodingBad = false
is_unpaired_reason reason.ChunkBad = false
is_unpaired_reason reason.Unpaired = true
is_unpaired_reason reason.Gap = false

abbrev pub is_unpaired_kind : UnitKind → Bool
is_unpaired_kind (Head head) = false
is_unpaired_kind (Done body head gap) = false
is_unpaired_kind Tunnel = false
is_unpaired_kind (Violation why) = is_unpaired_reason why

-- too many places waited for the other side
abbrev pub is_unpaired : MessageUnit → Bool
is_unpaired unit = is_unpaired_kind unit.what

abbrev pub without_unpaired : Option MessageUnit → Option MessageUnit
without_unpaired None = None
without_unpaired (Some unit) = if is_unpaired unit then None else Some unit

-- the next unit of a side that may wait for the other as long as it takes
abbrev pub next_patient : Side → Both Stream → Both (List MessageUnit) → Option MessageUnit
next_patient side streams units = without_unpaired (next side streams units)

abbrev pub add : Side → Option MessageUnit → Both (List MessageUnit) → Both (List MessageUnit)
add side None units = units
add Orig (Some unit) units = record { orig = units.orig ++ unit ∷ []; resp = units.resp }
add Resp (Some unit) units = record { orig = units.orig; resp = units.resp ++ unit ∷ [] }

abbrev pub no_units : Both (List MessageUnit)
no_units = record { orig = []; resp = [] }

-- the units behind some, where the sides are asked for their next one in this order
abbrev pub units_behind : (Side → Both (List MessageUnit) → Option MessageUnit) → Both (List MessageUnit) → List Side → Both (List MessageUnit)
units_behind ask units [] = units
units_behind ask units (side ∷ sides) = units_behind ask (add side (ask side units) units) sides

-- the units that the streams free
abbrev pub units_of : Both Stream → List Side → Both (List MessageUnit)
units_of streams sides = units_behind (λ side. next side streams) no_units sides

-- the units that they free where each side may wait for the other as long as it takes
abbrev pub patient_units : Both Stream → List Side → Both (List MessageUnit)
patient_units streams sides = units_behind (λ side. next_patient side streams) no_units sides
