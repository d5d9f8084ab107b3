-- What stays when streams grow, in the subject's own words.
use Rattle.std.specs.Prelude.{◌≡◌, ◌≤◌, true, false, List, [], ◌++◌, length, None, Some}
use Rattle.std.specs.List.{list_any}
use Rattle.zk_base.specs.declared.network.Side.{Side}
use Rattle.zk_http.specs.declared.units.«Unit».{«Unit» as MessageUnit}
use Rattle.zk_base.specs.Places.{Place}
use Rattle.zk_base.specs.Sides.{other}
use Rattle.zk_http.specs.Places.{Stream, Both, of_side}
use Rattle.zk_http.specs.Units.{place, next, next_patient, is_unpaired, units_of, patient_units}

-- the list goes on from the first one
abbrev pub GoesOn : {A : Type 0} → List A → List A → Type 0
GoesOn {A} early late = (behind : List A) × (late ≡ early ++ behind)

-- The stream has grown: places have come behind those that were there. A stream that has ended grows no more.
pub record Grows (early late : Stream) : Type 0 where
  pub behind : List Place
  pub places : late.places ≡ early.places ++ behind
  pub ended : early.ended ≡ true → (behind ≡ []) × (late.ended ≡ true)

abbrev pub BothGrow : Both Stream → Both Stream → Type 0
BothGrow early late = (side : Side) → Grows (of_side side early) (of_side side late)

-- A next unit stands in its stream, behind the side's last unit or where that ended.
abbrev pub IsInStream : Type 0
IsInStream =
    (side : Side) (streams : Both Stream) (units : Both (List MessageUnit)) (unit : MessageUnit) → next side streams units ≡ Some unit
    → (place (of_side side units) ≤ unit.place) × (unit.place ≤ length (of_side side streams).places)

-- A next unit, but for Unpaired, is given again when the stream of its side has grown and the units of the other side go on.
abbrev pub IsGivenAgain : Type 0
IsGivenAgain =
    (side : Side) (early late : Both Stream) (known longer : Both (List MessageUnit)) (unit : MessageUnit)
    → Grows (of_side side early) (of_side side late)
    → of_side side longer ≡ of_side side known → GoesOn (of_side (other side) known) (of_side (other side) longer)
    → next side early known ≡ Some unit → is_unpaired unit ≡ false
    → next side late longer ≡ Some unit

-- no side has another unit
abbrev pub AreAll : Both Stream → Both (List MessageUnit) → Type 0
AreAll streams units = (side : Side) → next_patient side streams units ≡ None

-- Where sides may wait, the units at a moment are on each side the first of those over streams that have grown, in whatever
-- order the sides are asked.
abbrev pub AreFirstUnits : Type 0
AreFirstUnits =
    (early late : Both Stream) → BothGrow early late
    → (first sides : List Side) → AreAll late (patient_units late sides)
    → (side : Side) → GoesOn (of_side side (patient_units early first)) (of_side side (patient_units late sides))

-- Where no unit is Unpaired, the units are those where sides may wait.
abbrev pub ArePatient : Type 0
ArePatient =
    (streams : Both Stream) (sides : List Side)
    → ((side : Side) → list_any is_unpaired (of_side side (units_of streams sides)) ≡ false)
    → units_of streams sides ≡ patient_units streams sides
