-- What the places that follow come to on a side.
use Rattle.std.specs.Prelude.{◌≡◌, ◌↔◌, ℕ, ◌+◌, ◌-◌, ◌≤◌, true, false, List, [], ◌∷◌, ◌++◌, length, take, drop, replicate, Option, None, Some}
use Rattle.zk_base.specs.Places.{bytes_before_gap}
use Rattle.zk_base.specs.declared.network.Side.{Side}
use Rattle.zk_http.specs.declared.body.Body.{Body}
use Rattle.zk_http.specs.declared.half.Between.{Between}
use Rattle.zk_http.specs.declared.half.Half.{Half}
use Rattle.zk_http.specs.declared.state.Part.{Part}
use Rattle.zk_http.specs.declared.state.Part.TheVariants as part
use Rattle.zk_http.specs.declared.state.State.TheVariants as state
use Rattle.zk_http.specs.declared.units.«Unit».{«Unit» as MessageUnit}
use Rattle.zk_http.specs.declared.units.UnitKind.{UnitKind}
use Rattle.zk_http.specs.declared.units.UnitKind.TheVariants.{Head, Done, Tunnel, Violation}
use Rattle.zk_http.specs.BodyBytes.{bytes_at, data_by, first_places}
use Rattle.zk_http.specs.Cases.{Case, Held}
use Rattle.zk_http.specs.HalfStanding.{HalfStands, between_case, waits_in}
use Rattle.zk_http.specs.Places.{Stream}
use Rattle.zk_http.specs.Reading.{Apart, phase_of, seen_at}
use Rattle.zk_http.specs.Starts.{IsStart, state_behind}
use Rattle.zk_http.specs.Units.{header_length, next_in}

-- ---- what is given

-- These are the bytes from what was used on, up to the first gap or the front. Once the side was told to have ended, they
-- are its last ones.
pub record IsLentTo (half : Half) (stream : Stream) (bytes : List ℕ) : Type 0 where
  pub bytes_are : bytes ≡ bytes_before_gap (drop half.used stream.places)
  pub last : half.ended ≡ true → half.used + length bytes ≡ length stream.places

-- Behind these bytes nothing has come yet; and where the side has ended, that was told.
pub record IsAllOf (half : Half) (stream : Stream) (bytes : List ℕ) : Type 0 where
  pub front : half.used + length bytes ≡ length stream.places
  pub told : stream.ended ≡ true → half.ended ≡ true

-- Behind so many bytes that were not used stands a gap of so many places, and behind it so many places up to the front.
pub record HasGapIn (half : Half) (stream : Stream) (unused places after : ℕ) : Type 0 where
  pub bytes_are : length (bytes_before_gap (drop half.used stream.places)) ≡ unused
  pub gap : take places (drop (half.used + unused) stream.places) ≡ replicate places None
  pub front : length stream.places ≡ half.used + unused + places + after

-- where it stands behind a message is what comes there
abbrev pub IsBetween : Half → Case → Between → Type 0
IsBetween half case between = phase_of half.state ≡ Apart → case ≡ between_case between

-- ---- what is done

-- where a unit that goes on stands
abbrev pub EndsAt : ℕ → ℕ → UnitKind → Type 0
EndsAt used at (Head head) = used ≡ at
EndsAt used at (Done body head gap) = used ≡ at
EndsAt used at Tunnel = Unit {0}
EndsAt used at (Violation reason) = Unit {0}

-- The side behind one more unit: of a head, whose body isn't known here, behind which an empty body is read.
pub record IsBehind (half : Half) (stream : Stream) (units : List MessageUnit) (unit : MessageUnit) : Type 0 where
  pub within : half.used ≤ length stream.places
  pub told : half.ended ≡ true → stream.ended ≡ true
  pub state : half.state ≡ state_behind (header_length stream (units ++ unit ∷ [])) unit.what
  pub at : EndsAt half.used unit.place unit.what

-- a unit that is told is the next one, and the side goes on behind it
pub record Gave (side : Side) (half : Half) (stream : Stream) (case : Case) (units : List MessageUnit) (unit : MessageUnit) : Type 0 where
  pub next : next_in stream side case units ≡ Some unit
  pub behind : IsBehind half stream units unit

-- What bytes come to.
abbrev pub Moves : Side → Half → Half → Stream → Case → List MessageUnit → List ℕ → Option MessageUnit → Type 0
Moves side old new stream case units bytes None =
    HalfStands side new stream case units × (IsAllOf old stream bytes → next_in stream side case units ≡ None)
Moves side old new stream case units bytes (Some unit) = Gave side new stream case units unit

-- What so many places come to that wait for the other side.
abbrev pub MovesWaiting : Side → Half → Half → Stream → Case → List MessageUnit → ℕ → Option MessageUnit → Type 0
MovesWaiting side old new stream case units places None =
    HalfStands side new stream case units × (old.used + places ≡ length stream.places → next_in stream side case units ≡ None)
MovesWaiting side old new stream case units places (Some unit) = Gave side new stream case units unit

-- What a gap comes to, of which, with the bytes before it, so many places are used.
abbrev pub MovesOver : Side → Half → Stream → Case → List MessageUnit → ℕ → Option MessageUnit → Type 0
MovesOver side new stream case units used None =
    HalfStands side new stream case units × ((used ≡ 0) ↔ (case ≡ Held)) × (used ≡ 0 → next_in stream side case units ≡ None)
MovesOver side new stream case units used (Some unit) = Gave side new stream case units unit

-- Of so many bytes and places, so many are used.
pub record HalfTakes (old new : Half) (used given : ℕ) : Type 0 where
  pub within : used ≤ given
  pub used_is : new.used ≡ old.used + used
  pub seen : seen_at new.state ≤ given - used
  pub told : new.ended ≡ old.ended

-- where there is no unit, few bytes stay unused, and they were looked at, or wait for the other side
abbrev pub Leaves : Half → Between → ℕ → Type 0
Leaves half between left = (left ≤ 65536) × (waits_in (phase_of half.state) between ≡ false → seen_at half.state ≡ left)

-- the bytes of the body that the side is in, as far as the first n places of its stream hold them
abbrev pub bytes_in_first : ℕ → Stream → Case → List MessageUnit → List ℕ
bytes_in_first n stream case units = bytes_at (data_by case (first_places n stream units))

-- the unit is the head of a message
abbrev pub IsHead : UnitKind → Type 0
IsHead (Head head) = Unit {0}
IsHead (Done body head gap) = ⊥
IsHead Tunnel = ⊥
IsHead (Violation reason) = ⊥

abbrev pub GivesHead : Option MessageUnit → Type 0
GivesHead None = ⊥
GivesHead (Some unit) = IsHead unit.what

-- The side reads the body that follows a head, where an empty one was read.
abbrev pub StartsBody : Half → Body → Half → Type 0
StartsBody old body new =
    (header : ℕ) → old.state ≡ state.Body (record { part = part.Places 0; header = header; body = 0; gap = 0 })
    → (start : Part) × IsStart body start × (new.state ≡ state.Body (record { part = start; header = header; body = 0; gap = 0 }))
