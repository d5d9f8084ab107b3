-- What a reader of both streams stands for.
use Rattle.std.specs.Prelude.{◌≡◌, ◌⊎◌, ℕ, ◌+◌, ◌-◌, ◌≤◌, Bool, true, false, List, [], ◌∷◌, length, take, drop, map, replicate, slice_get, None}
use Rattle.std.specs.List.{last_or}
use Rattle.zk_base.specs.Places.{bytes_before_gap}
use Rattle.zk_base.specs.declared.network.Side.{Side}
use Rattle.zk_base.specs.declared.network.Side.TheVariants.{Orig, Resp}
use Rattle.zk_http.specs.declared.body.Asked as ask
use Rattle.zk_http.specs.declared.half.Between as next_to
use Rattle.zk_http.specs.declared.half.Between.TheVariants.{Free, Waiting}
use Rattle.zk_http.specs.declared.half.Half.{Half}
use Rattle.zk_http.specs.declared.http.Http.{Http}
use Rattle.zk_http.specs.declared.units.Head.{Head as MessageHead}
use Rattle.zk_http.specs.declared.units.«Unit».{«Unit» as MessageUnit}
use Rattle.zk_http.specs.Bodies.{asked_by}
use Rattle.zk_http.specs.Cases.{Held, answers, between_requests, case_of, heads}
use Rattle.zk_base.specs.Sides.{other}
use Rattle.zk_http.specs.Places.{Stream, Both, of_side}
use Rattle.zk_http.specs.Growth.{BothGrow}
use Rattle.zk_http.specs.HalfStanding.{HalfStands, between_case, waits_in}
use Rattle.zk_http.specs.Reading.{phase_of, seen_at}
use Rattle.zk_http.specs.Units.{next, unread}

-- The reader goes on as one that was given the places of these streams that it has used, and has told these units. A stream
-- that has ended was told to have ended, or is still to be.
pub record StandsFor (http : Http) (streams : Both Stream) (units : Both (List MessageUnit)) : Type 0 where
  pub orig : HalfStands Orig http.requests streams.orig (case_of Orig units) units.orig
  pub resp : HalfStands Resp http.responses streams.resp (case_of Resp units) units.resp
  -- the requests that wait for their response
  pub asked : http.asked.items ≡ map (λ (head : MessageHead). asked_by head.start) (drop (length (answers units.resp)) (heads units.orig))
  pub paired : length (answers units.resp) ≤ length (heads units.orig)
  pub between : between_case http.between ≡ between_requests (last_or None (heads units.orig)) (slice_get (answers units.resp) (length (heads units.orig) - 1))

abbrev pub half_of : Side → Http → Half
half_of Orig http = http.requests
half_of Resp http = http.responses

-- how many places of a side's stream it has used
unfoldable pub used_of : Side → Http → ℕ
used_of side http = (half_of side http).used

-- how many of the bytes that follow them it has looked at
unfoldable pub seen_of : Side → Http → ℕ
seen_of side http = seen_at (half_of side http).state

-- whether it was told that a side has ended
unfoldable pub is_told : Side → Http → Bool
is_told side http = (half_of side http).ended

-- what comes behind the responses, by the requests that wait
abbrev pub between_responses : List ask.Asked → next_to.Between
between_responses [] = Waiting
between_responses (asked ∷ others) = Free

abbrev pub between_of : Side → Http → next_to.Between
between_of Orig http = http.between
between_of Resp http = between_responses http.asked.items

-- whether a side waits for the other
unfoldable pub is_waiting : Side → Http → Bool
is_waiting side http = waits_in (phase_of (half_of side http).state) (between_of side http)

-- ---- what a call is given

-- These are a side's bytes from what was used on, up to the first gap or the front. Once the side was told to have ended, they
-- are its last ones.
pub record IsLent (http : Http) (side : Side) (stream : Stream) (bytes : List ℕ) : Type 0 where
  pub bytes_are : bytes ≡ bytes_before_gap (drop (used_of side http) stream.places)
  pub last : is_told side http ≡ true → used_of side http + length bytes ≡ length stream.places

-- Behind these bytes nothing has come yet; and where the side has ended, that was told.
pub record IsAll (http : Http) (side : Side) (stream : Stream) (bytes : List ℕ) : Type 0 where
  pub front : used_of side http + length bytes ≡ length stream.places
  pub told : stream.ended ≡ true → is_told side http ≡ true

-- Behind so many bytes that were not used stands a gap of so many places, and behind it so many places up to the front.
pub record HasGap (http : Http) (side : Side) (stream : Stream) (unused places after : ℕ) : Type 0 where
  pub bytes_are : length (bytes_before_gap (drop (used_of side http) stream.places)) ≡ unused
  pub gap : take places (drop (used_of side http + unused) stream.places) ≡ replicate places None
  pub front : length stream.places ≡ used_of side http + unused + places + after

-- It has read so many bytes that it did not use: it waits for the other side, or has looked at each of them.
unfoldable pub HasRead : Side → Http → ℕ → Type 0
HasRead side http unused = is_waiting side http ≡ false → seen_of side http ≡ unused

-- ---- what a call does

-- Of so many bytes and places that a side was given, so many are used.
pub record Takes (side : Side) (old new : Http) (used given : ℕ) : Type 0 where
  pub within : used ≤ given
  pub used_is : used_of side new ≡ used_of side old + used
  pub seen : seen_of side new ≤ given - used
  pub told : is_told side new ≡ is_told side old
  pub other_used : used_of (other side) new ≡ used_of (other side) old
  pub other_seen : seen_of (other side) new ≡ seen_of (other side) old
  pub other_told : is_told (other side) new ≡ is_told (other side) old

-- It goes on as before.
pub record IsSame (old new : Http) : Type 0 where
  pub stands : (streams : Both Stream) (units : Both (List MessageUnit)) → StandsFor old streams units → StandsFor new streams units
  pub used : (side : Side) → used_of side new ≡ used_of side old
  pub seen : (side : Side) → seen_of side new ≡ seen_of side old
  pub told : (side : Side) → is_told side new ≡ is_told side old
  pub waits : (side : Side) → is_waiting side new ≡ is_waiting side old

-- ---- laws

-- A reader that stands for streams stands for them when they have grown.
abbrev pub StandAsTheyGrow : Type 0
StandAsTheyGrow =
    (http : Http) (early late : Both Stream) (units : Both (List MessageUnit)) → StandsFor http early units → BothGrow early late → StandsFor http late units

-- A reader uses and looks at places that are there, and was told to have ended what has.
abbrev pub LookWithin : Type 0
LookWithin =
    (http : Http) (streams : Both Stream) (units : Both (List MessageUnit)) (side : Side) → StandsFor http streams units
    → (used_of side http ≤ length (of_side side streams).places)
    × (seen_of side http ≤ length (bytes_before_gap (drop (used_of side http) (of_side side streams).places)))
    × (is_told side http ≡ true → (of_side side streams).ended ≡ true)

-- A side that has no further unit, and waits for the other or has looked at all that follows, has used all that is read.
abbrev pub UseWhatIsRead : Type 0
UseWhatIsRead =
    (http : Http) (streams : Both Stream) (units : Both (List MessageUnit)) (side : Side) → StandsFor http streams units → next side streams units ≡ None
    → ((case_of side units ≡ Held) ⊎ HasRead side http (length (drop (used_of side http) (of_side side streams).places)))
    → drop (used_of side http) (of_side side streams).places ≡ unread side streams units
