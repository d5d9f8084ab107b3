-- What the places that follow come to behind a head.
use Rattle.std.specs.Prelude.{◌≡◌, ℕ, ◌+◌, ◌-◌, ◌*◌, ◌<◌, ◌≤◌, Bool, true, List, [], ◌++◌, length, take, drop, map, Some, if◌then◌else◌}
use Rattle.zk_base.specs.Places.{Place, gaps}
use Rattle.zk_http.specs.declared.state.Part.{Part}
use Rattle.zk_http.specs.declared.state.Part.TheVariants.{Places, ToEnd, Size, Chunk, Return, Feed, Trailer, Tunnel, Unknown}
use Rattle.zk_http.specs.declared.state.Reading.{Reading}
use Rattle.zk_http.specs.declared.turn.Turn.{Turn}
use Rattle.zk_http.specs.declared.turn.Turn.TheVariants.{On, Waits, Tells}
use Rattle.zk_http.specs.declared.units.UnitKind.{UnitKind}
use Rattle.zk_http.specs.declared.units.UnitKind.TheVariants as kind
use Rattle.zk_http.specs.Reading.{KnowsIn, data_from, data_of_part, means, bound_in, seen_in}
use Rattle.zk_http.specs.Reads as reads
use Rattle.zk_http.specs.Reads.{later}
use Rattle.zk_http.specs.Units.{unit_at}

-- bytes as places
abbrev pub places_of : List ℕ → List Place
places_of bytes = map (λ byte. Some byte) bytes

-- Whatever comes behind these places, what was to be read of them is what is now to be read behind the first n of them.
pub record Goes (old new : Reading) (n : ℕ) (places : List Place) : Type 0 where
  pub by : (ended : Bool) (behind : List Place) → means old ended (places ++ behind) ≡ later n (means new ended (drop n places ++ behind))
  pub knows : KnowsIn new.part (drop n places)

-- Whatever comes behind these places, the first n of them show this. Behind a side that was told to have ended nothing comes.
abbrev pub Shows : Reading → Bool → ℕ → UnitKind → List Place → Type 0
Shows reading told n what places =
    (ended : Bool) (behind : List Place) (from : ℕ) → (told ≡ true → (behind ≡ []) × (ended ≡ true))
    → unit_at from (means reading ended (places ++ behind)) ≡ Some (record { place = from + n; what = what })

-- As long as no more places come, these show nothing, and none of them is read, unless the side has ended and that was not told.
abbrev pub ShowsNothing : Reading → Bool → List Place → Type 0
ShowsNothing reading told places = (ended : Bool) → (ended ≡ true → told ≡ true) → means reading ended places ≡ reads.Waits 0

-- the places are all gaps, or all bytes
abbrev pub AreAlike : Bool → List Place → Type 0
AreAlike is_gap places = (n : ℕ) → n ≤ length places → gaps (take n places) ≡ (if is_gap then n else 0)

-- what these places come to
abbrev pub IsTurn : Reading → Bool → List Place → Turn → Type 0
IsTurn old told places (On n new) = Goes old new n places
IsTurn old told places (Waits n new) = Goes old new n places × ShowsNothing new told (drop n places)
IsTurn old told places (Tells n what) = Shows old told n what places

-- Of so many places n were read.
pub record Counts (old new : Reading) (n count : ℕ) : Type 0 where
  pub within : n ≤ count
  pub body : new.body ≤ old.body + n
  pub gap : new.gap ≤ old.gap + n
  pub seen : seen_in new.part ≤ count - n
  pub most : seen_in new.part < bound_in new.part

-- a chunk may end at once
abbrev pub steps_in : Part → ℕ
steps_in (Places left) = 0
steps_in ToEnd = 0
steps_in (Size search) = 0
steps_in (Chunk left) = 1
steps_in Return = 0
steps_in Feed = 0
steps_in (Trailer search) = 0
steps_in Tunnel = 0
steps_in (Unknown why) = 0

-- the unit is no head
abbrev pub IsNoHead : UnitKind → Type 0
IsNoHead (kind.Head head) = ⊥
IsNoHead (kind.Done body header gap) = Unit {0}
IsNoHead kind.Tunnel = Unit {0}
IsNoHead (kind.Violation reason) = Unit {0}

-- how many of the bytes were read: where more have to come, few are left and all were looked at
abbrev pub HasCounts : Reading → ℕ → Turn → Type 0
HasCounts old count (On n new) = Counts old new n count × (steps_in new.part < 2 * n + steps_in old.part)
HasCounts old count (Waits n new) = Counts old new n count × (seen_in new.part ≡ count - n) × (count - n ≤ 65536)
HasCounts old count (Tells n what) = (n ≤ count) × IsNoHead what

-- of a body or a chunk of which so many places are left, all that have come are passed
abbrev pub PassesAll : ℕ → ℕ → Turn → Type 0
PassesAll left count (On n new) = n ≡ left
PassesAll left count (Waits n new) = n ≡ count
PassesAll left count (Tells n what) = Unit {0}

-- how much of a gap, and of the bytes before it, was read
abbrev pub HasGapCounts : Reading → ℕ → ℕ → Turn → Type 0
HasGapCounts old unused count (On n new) = (n ≡ count) × (unused ≡ 0) × Counts old new n count
HasGapCounts old unused count (Waits n new) = (n ≡ count) × (unused ≡ 0) × Counts old new n count
HasGapCounts old unused count (Tells n what) = (n ≤ unused + count) × IsNoHead what

-- ---- the body's places

-- how many places were read
abbrev pub read_in : Turn → ℕ
read_in (On n new) = n
read_in (Waits n new) = n
read_in (Tells n what) = n

-- Of the places that one part read the body's are all or none, and whatever comes behind them, the others are those of the part
-- that follows.
abbrev pub HasData : Part → List Place → Turn → Type 0
HasData old places (On n new) = (behind : List Place) → data_from old (take n places ++ behind) ≡ data_of_part old (take n places) ++ data_from new.part behind
HasData old places (Waits n new) = (behind : List Place) → data_from old (take n places ++ behind) ≡ data_of_part old (take n places) ++ data_from new.part behind
HasData old places (Tells n what) = data_from old (take n places) ≡ data_of_part old (take n places)

-- Whatever comes behind these places, of which n were read, the body's are those of the first n and those of the part that follows.
abbrev pub DataGoes : Part → Part → ℕ → List Place → Type 0
DataGoes old new n places = (behind : List Place) → data_from old (take n places ++ behind) ≡ data_from old (take n places) ++ data_from new behind

abbrev pub GoesOnWithData : Part → List Place → Turn → Type 0
GoesOnWithData old places (On n new) = DataGoes old new.part n places
GoesOnWithData old places (Waits n new) = DataGoes old new.part n places
GoesOnWithData old places (Tells n what) = Unit {0}

-- no other part begins behind it
abbrev pub IsLast : Turn → Type 0
IsLast (On n new) = ⊥
IsLast (Waits n new) = Unit {0}
IsLast (Tells n what) = Unit {0}
