-- What one side of a reader stands for.
use Rattle.std.specs.Prelude.{◌≡◌, ℕ, ◌≤◌, Bool, true, false, List, [], ◌++◌, length, drop, Option, None, Some}
use Rattle.std.specs.List.{last_or}
use Rattle.zk_base.specs.Places.{Place}
use Rattle.zk_base.specs.declared.network.Side.{Side}
use Rattle.zk_http.specs.declared.half.Between as next_to
use Rattle.zk_http.specs.declared.half.Between.TheVariants.{Free, Waiting, Tunnelled}
use Rattle.zk_http.specs.declared.half.Half.{Half}
use Rattle.zk_http.specs.declared.state.State.{State}
use Rattle.zk_http.specs.declared.state.State.TheVariants.{Between, Head, Body}
use Rattle.zk_http.specs.declared.state.State.TheVariants as state
use Rattle.zk_http.specs.declared.units.«Unit».{«Unit» as MessageUnit}
use Rattle.zk_http.specs.declared.units.UnitKind.{UnitKind}
use Rattle.zk_http.specs.declared.units.UnitKind.TheVariants as unit
use Rattle.zk_http.specs.BodyBytes.{data_by, first_places}
use Rattle.zk_http.specs.Cases.{Case, Before, Held, Over}
use Rattle.zk_http.specs.Places.{Stream}
use Rattle.zk_http.specs.Reading.{Phase, Apart, Inside, Past, data_at, phase_of, KnowsAt, head_unit, means_at}
use Rattle.zk_http.specs.Reads.{Reads, later}
use Rattle.zk_http.specs.Units.{decide, header_length, place}

-- the last unit, if there is one, is the end of a message
abbrev pub IsDone : UnitKind → Type 0
IsDone (unit.Head head) = ⊥
IsDone (unit.Done body head gap) = Unit {0}
IsDone unit.Tunnel = ⊥
IsDone (unit.Violation reason) = ⊥

abbrev pub EndsMessage : Option MessageUnit → Type 0
EndsMessage None = Unit {0}
EndsMessage (Some last) = IsDone last.what

-- The side is in a message: whatever comes behind the places that are there, what this reads of those that were not used
-- tells the unit that the definition has; and where there is none, as many places are read.
pub record TellsAs (side : Side) (used : ℕ) (meaning : Bool → Reads UnitKind) (stream : Stream) (case : Case) (units : List MessageUnit) : Type 0 where
  pub free : case ≡ Held → ⊥
  pub tells : (ended : Bool) (behind : List Place) → (stream.ended ≡ true → (behind ≡ []) × (ended ≡ true))
      → later (place units) (decide side case (header_length stream units) ended (drop (place units) stream.places ++ behind))
      ≡ later used (meaning ended (drop used stream.places ++ behind))
  pub begun : place units ≤ used

-- nothing of a head was used
abbrev pub HeadBegins : State → ℕ → List MessageUnit → Type 0
HeadBegins Between used units = Unit {0}
HeadBegins (Head search) used units = used ≡ place units
HeadBegins (Body reading) used units = Unit {0}
HeadBegins state.Over used units = Unit {0}

-- Whatever comes behind the places that were used, the body's are those among these and those that are still to be read.
abbrev pub HoldsData : ℕ → State → Stream → Case → List MessageUnit → Type 0
HoldsData used state stream case units =
    (behind : List Place) → data_by case (first_places used stream units ++ behind) ≡ data_by case (first_places used stream units) ++ data_at state behind

pub record IsInside (side : Side) (half : Half) (stream : Stream) (case : Case) (units : List MessageUnit) : Type 0 where
  pub tells : TellsAs side half.used (means_at half.state side) stream case units
  pub knows : KnowsAt half.state (drop half.used stream.places)
  pub head : HeadBegins half.state half.used units
  pub content : HoldsData half.used half.state stream case units

abbrev pub HowStands : Phase → Side → Half → Stream → Case → List MessageUnit → Type 0
HowStands Apart side half stream case units = (half.used ≡ place units) × EndsMessage (last_or None units)
HowStands Inside side half stream case units = IsInside side half stream case units
HowStands Past side half stream case units = case ≡ Over

-- what a side's reader has used and reads, by the side's stream, its units and where it stands behind them
pub record HalfStands (side : Side) (half : Half) (stream : Stream) (case : Case) (units : List MessageUnit) : Type 0 where
  pub within : half.used ≤ length stream.places
  pub told : half.ended ≡ true → stream.ended ≡ true
  pub how : HowStands (phase_of half.state) side half stream case units

-- no place is a body's
abbrev pub HasNoData : Case → Type 0
HasNoData case = (places : List Place) → data_by case places ≡ []

-- a head is to be read
pub record IsAtHead (side : Side) (half : Half) (stream : Stream) (case : Case) (units : List MessageUnit) : Type 0 where
  pub within : half.used ≤ length stream.places
  pub told : half.ended ≡ true → stream.ended ≡ true
  pub tells : TellsAs side half.used (λ _. head_unit side) stream case units
  pub begins : half.used ≡ place units
  pub nothing : HasNoData case

-- ---- between two messages

-- what comes behind a message
abbrev pub between_case : next_to.Between → Case
between_case Free = Before
between_case Waiting = Held
between_case Tunnelled = Over

abbrev pub waits_if : next_to.Between → Bool
waits_if Free = false
waits_if Waiting = true
waits_if Tunnelled = false

abbrev pub waits_in : Phase → next_to.Between → Bool
waits_in Apart between = waits_if between
waits_in Inside between = false
waits_in Past between = false
