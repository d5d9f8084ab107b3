-- The units at a moment are the first of those over streams that have grown, in whatever order the sides are asked.
use Rattle.std.proofs.Common.{◌≡◌, ◌⊎◌, Bool, true, false, cond, inl, inr, List, [], ◌∷◌, ◌++◌, Option, None, Some, refl, sym, ap, subst, ◌∙◌, append_assoc}
use Rattle.std.specs.List.{list_any}
use Rattle.std.proofs.lemmas.Bool.{or_parts}
use Rattle.std.proofs.lemmas.List.{append-nil}
use Rattle.zk_base.specs.declared.network.Side.{Side}
use Rattle.zk_base.specs.declared.network.Side.TheVariants.{Orig, Resp}
use Rattle.zk_http.specs.declared.units.«Unit».{«Unit» as MessageUnit}
use Rattle.zk_http.specs.Growth.{GoesOn, Grows, BothGrow, AreAll, AreFirstUnits, ArePatient}
use Rattle.zk_base.specs.Sides.{other}
use Rattle.zk_http.specs.Places.{Stream, Both, of_side}
use Rattle.zk_http.specs.Units.{next, next_patient, without_unpaired, is_unpaired, add, no_units, units_behind, patient_units}
use Rattle.zk_http.proofs.GrowthLaws.{given_again}

-- ---- lists that go on

goes_on_same : {A : Type 0} (xs : List A) → GoesOn xs xs
goes_on_same xs = ([], sym (append-nil xs))

goes_on_along : {A : Type 0} (xs ys zs : List A) → GoesOn xs ys → GoesOn ys zs → GoesOn xs zs
goes_on_along xs ys zs first second =
    (first.0 ++ second.0, second.1 ∙ ap (λ all. all ++ second.0) first.1 ∙ append_assoc xs first.0 second.0)

-- of two lists from which one goes on, one goes on from the other
either_goes_on : {A : Type 0} (xs ys more others : List A) → xs ++ more ≡ ys ++ others → GoesOn xs ys ⊎ GoesOn ys xs
either_goes_on [] ys more others same = inl (ys, refl)
either_goes_on (x ∷ xs) [] more others same = inr (x ∷ xs, refl)
either_goes_on (x ∷ xs) (y ∷ ys) more others same = longer (either_goes_on xs ys more others cc)
  where
    first : x ≡ y
    first = cc

    longer : GoesOn xs ys ⊎ GoesOn ys xs → GoesOn (x ∷ xs) (y ∷ ys) ⊎ GoesOn (y ∷ ys) (x ∷ xs)
    longer (inl on) = inl (on.0, cc)
    longer (inr on) = inr (on.0, cc)

-- where an element stands in a list to which one was added
added_at : {A : Type 0} (xs front rest : List A) (u v : A) → xs ++ u ∷ [] ≡ front ++ v ∷ rest
    → ((front ≡ xs) × (v ≡ u)) ⊎ ((others : List A) × (xs ≡ front ++ v ∷ others))
added_at [] [] rest u v same = inl (refl, cc)
added_at [] (y ∷ front) rest u v same = absurd (nothing front cc)
  where
    nothing : (front : List _) → [] ≡ front ++ v ∷ rest → ⊥
    nothing [] same = cc
    nothing (z ∷ front) same = cc
added_at (x ∷ xs) [] rest u v same = inr (xs, cc)
added_at (x ∷ xs) (y ∷ front) rest u v same = behind (added_at xs front rest u v cc)
  where
    behind : ((front ≡ xs) × (v ≡ u)) ⊎ ((others : List _) × (xs ≡ front ++ v ∷ others))
        → (((y ∷ front) ≡ (x ∷ xs)) × (v ≡ u)) ⊎ ((others : List _) × ((x ∷ xs) ≡ (y ∷ front) ++ v ∷ others))
    behind (inl last) = inl (cc, last.1)
    behind (inr within) = inr (within.0, cc)

-- ---- asking one side

patient_is : (found : Option MessageUnit) (unit : MessageUnit) → without_unpaired found ≡ Some unit → (found ≡ Some unit) × (is_unpaired unit ≡ false)
patient_is None unit is = absurd (cc)
patient_is (Some given) unit is = patient (is_unpaired given) refl is
  where
    patient : (unpaired : Bool) → is_unpaired given ≡ unpaired → cond unpaired None (Some given) ≡ Some unit
        → (Some given ≡ Some unit) × (is_unpaired unit ≡ false)
    patient true was is = absurd (cc)
    patient false was is =
        let same : given ≡ unit = cc in
        (is, ap is_unpaired (sym same) ∙ was)

is_patient : (found : Option MessageUnit) (unit : MessageUnit) → found ≡ Some unit → is_unpaired unit ≡ false → without_unpaired found ≡ Some unit
is_patient found unit is paired = ap without_unpaired is ∙ ap (λ unpaired. cond unpaired None (Some unit)) paired

-- a next unit of a patient side is given again
patient_again : (side : Side) (early late : Both Stream) (known longer : Both (List MessageUnit)) (unit : MessageUnit)
    → Grows (of_side side early) (of_side side late)
    → of_side side longer ≡ of_side side known → GoesOn (of_side (other side) known) (of_side (other side) longer)
    → next_patient side early known ≡ Some unit → next_patient side late longer ≡ Some unit
patient_again side early late known longer unit grows same on is =
    let asked = patient_is (next side early known) unit is in
    is_patient (next side late longer) unit (given_again side early late known longer unit grows same on asked.0 asked.1) asked.1

grows_same : (stream : Stream) → Grows stream stream
grows_same stream = record { behind = []; places = sym (append-nil stream.places); ended = λ ended. (refl, ended) }

-- ---- units that were next ones

-- the unit was the next one behind these of its side, and some of the other's
abbrev WasNext : Both Stream → Side → Both (List MessageUnit) → List MessageUnit → MessageUnit → Type 0
WasNext streams side units front unit =
    (then : Both (List MessageUnit)) × (of_side side then ≡ front) × GoesOn (of_side (other side) then) (of_side (other side) units)
    × (next_patient side streams then ≡ Some unit)

-- each of the units was the next one behind those before it
abbrev AreNext : Both Stream → Both (List MessageUnit) → Type 0
AreNext streams units =
    (side : Side) (front rest : List MessageUnit) (unit : MessageUnit) → of_side side units ≡ front ++ unit ∷ rest → WasNext streams side units front unit

-- on the side whose next one was added
next_here : (streams : Both Stream) (side : Side) (units later : Both (List MessageUnit)) (given : MessageUnit) → AreNext streams units
    → next_patient side streams units ≡ Some given
    → of_side side later ≡ of_side side units ++ given ∷ [] → of_side (other side) later ≡ of_side (other side) units
    → (front rest : List MessageUnit) (unit : MessageUnit) → of_side side later ≡ front ++ unit ∷ rest → WasNext streams side later front unit
next_here streams side units later given are is own others front rest unit stands =
    here (added_at (of_side side units) front rest given unit (sym own ∙ stands))
  where
    here : ((front ≡ of_side side units) × (unit ≡ given)) ⊎ ((rest : List MessageUnit) × (of_side side units ≡ front ++ unit ∷ rest))
        → WasNext streams side later front unit
    here (inl last) = (units, sym last.0, ([], sym (append-nil _ ∙ sym others)), is ∙ ap (λ u. Some u) (sym last.1))
    here (inr within) =
        let was = are side front within.0 unit within.1 in
        (was.0, was.1, subst (λ all. GoesOn (of_side (other side) was.0) all) (sym others) was.2, was.3)

-- on the other side
next_there : (streams : Both Stream) (side : Side) (units later : Both (List MessageUnit)) → AreNext streams units
    → of_side side later ≡ of_side side units → GoesOn (of_side (other side) units) (of_side (other side) later)
    → (front rest : List MessageUnit) (unit : MessageUnit) → of_side side later ≡ front ++ unit ∷ rest → WasNext streams side later front unit
next_there streams side units later are own others front rest unit stands =
    let was = are side front rest unit (sym own ∙ stands) in
    (was.0, was.1, goes_on_along (of_side (other side) was.0) (of_side (other side) units) (of_side (other side) later) was.2 others, was.3)

next_added : (streams : Both Stream) (asked : Side) (units : Both (List MessageUnit)) (found : Option MessageUnit) → AreNext streams units
    → next_patient asked streams units ≡ found → AreNext streams (add asked found units)
next_added streams Orig units None are is side = are side
next_added streams Resp units None are is side = are side
next_added streams Orig units (Some given) are is Orig =
    next_here streams Orig units (add Orig (Some given) units) given are is refl refl
next_added streams Orig units (Some given) are is Resp =
    next_there streams Resp units (add Orig (Some given) units) are refl (given ∷ [], refl)
next_added streams Resp units (Some given) are is Orig =
    next_there streams Orig units (add Resp (Some given) units) are refl (given ∷ [], refl)
next_added streams Resp units (Some given) are is Resp =
    next_here streams Resp units (add Resp (Some given) units) given are is refl refl

all_next : (streams : Both Stream) (units : Both (List MessageUnit)) (sides : List Side) → AreNext streams units
    → AreNext streams (units_behind (λ side. next_patient side streams) units sides)
all_next streams units [] are = are
all_next streams units (side ∷ sides) are =
    all_next streams (add side (next_patient side streams units) units) sides (next_added streams side units (next_patient side streams units) are refl)

none_next : (streams : Both Stream) → AreNext streams no_units
none_next streams Orig front rest unit stands = absurd (nothing front stands)
  where
    nothing : (front : List MessageUnit) → [] ≡ front ++ unit ∷ rest → ⊥
    nothing [] same = cc
    nothing (z ∷ front) same = cc
none_next streams Resp front rest unit stands = absurd (nothing front stands)
  where
    nothing : (front : List MessageUnit) → [] ≡ front ++ unit ∷ rest → ⊥
    nothing [] same = cc
    nothing (z ∷ front) same = cc

-- ---- the units at a moment

-- what is said of some units and of all those over streams that have grown
record Holds (early late : Both Stream) (all : Both (List MessageUnit)) : Type 0 where
  grow : BothGrow early late
  next : AreNext late all
  whole : AreAll late all

-- both sides' units go on to all of them
abbrev GoOn : Both (List MessageUnit) → Both (List MessageUnit) → Type 0
GoOn units all = (side : Side) → GoesOn (of_side side units) (of_side side all)

-- the next unit is the one that follows among all
next_follows : (early late : Both Stream) (all units : Both (List MessageUnit)) (side : Side) (unit : MessageUnit) → Holds early late all → GoOn units all
    → next_patient side early units ≡ Some unit → GoesOn (of_side side units ++ unit ∷ []) (of_side side all)
next_follows early late all units side unit holds on is = follows (on side).0 (on side).1
  where
    there : GoesOn (of_side (other side) units) (of_side (other side) all)
    there = on (other side)

    same_unit : (v : MessageUnit) (then : Both (List MessageUnit)) → of_side side then ≡ of_side side units
        → next_patient side late then ≡ Some v
        → GoesOn (of_side (other side) units) (of_side (other side) then) ⊎ GoesOn (of_side (other side) then) (of_side (other side) units) → unit ≡ v
    same_unit v then own was (inl longer) =
        let again = patient_again side early late units then unit (holds.grow side) own longer is in
        cc
    same_unit v then own was (inr shorter) =
        let one = patient_again side late late then units v (grows_same (of_side side late)) (sym own) shorter was in
        let other_one = patient_again side early late units units unit (holds.grow side) refl (goes_on_same _) is in
        cc

    follows : (rest : List MessageUnit) → of_side side all ≡ of_side side units ++ rest → GoesOn (of_side side units ++ unit ∷ []) (of_side side all)
    follows [] stands =
        let again = patient_again side early late units all unit (holds.grow side) (stands ∙ append-nil _) there is in
        let none = holds.whole side in
        absurd cc
    follows (v ∷ rest) stands =
        let was = holds.next side (of_side side units) rest v stands in
        let same = same_unit v was.0 was.1 was.3
        (either_goes_on (of_side (other side) units) (of_side (other side) was.0) there.0 was.2.0 (sym there.1 ∙ was.2.1)) in
        (rest, stands ∙ ap (λ u. of_side side units ++ u ∷ rest) (sym same) ∙ sym (append_assoc (of_side side units) (unit ∷ []) rest))

go_on_added : (early late : Both Stream) (all units : Both (List MessageUnit)) (asked : Side) (found : Option MessageUnit) → Holds early late all → GoOn units all
    → next_patient asked early units ≡ found → GoOn (add asked found units) all
go_on_added early late all units Orig None holds on is side = on side
go_on_added early late all units Resp None holds on is side = on side
go_on_added early late all units Orig (Some unit) holds on is Orig = next_follows early late all units Orig unit holds on is
go_on_added early late all units Orig (Some unit) holds on is Resp = on Resp
go_on_added early late all units Resp (Some unit) holds on is Orig = on Orig
go_on_added early late all units Resp (Some unit) holds on is Resp = next_follows early late all units Resp unit holds on is

go_on_behind : (early late : Both Stream) (all units : Both (List MessageUnit)) (sides : List Side) → Holds early late all → GoOn units all
    → GoOn (units_behind (λ side. next_patient side early) units sides) all
go_on_behind early late all units [] holds on = on
go_on_behind early late all units (side ∷ sides) holds on =
    go_on_behind early late all (add side (next_patient side early units) units) sides holds
    (go_on_added early late all units side (next_patient side early units) holds on refl)

none_go_on : (all : Both (List MessageUnit)) → GoOn no_units all
none_go_on all Orig = (all.orig, refl)
none_go_on all Resp = (all.resp, refl)

pub first_units : AreFirstUnits
first_units early late grow first sides whole =
    let all = patient_units late sides in
    go_on_behind early late all no_units first (record { grow = grow; next = all_next late no_units sides (none_next late); whole = whole }) (none_go_on all)

-- ---- where no unit is Unpaired

-- no unit among these tells that too much waits
abbrev NonePair : Both (List MessageUnit) → Type 0
NonePair units = (side : Side) → list_any is_unpaired (of_side side units) ≡ false

added_goes_on : (asked : Side) (found : Option MessageUnit) (units : Both (List MessageUnit)) → GoOn units (add asked found units)
added_goes_on Orig None units side = goes_on_same (of_side side units)
added_goes_on Resp None units side = goes_on_same (of_side side units)
added_goes_on Orig (Some unit) units Orig = (unit ∷ [], refl)
added_goes_on Orig (Some unit) units Resp = goes_on_same units.resp
added_goes_on Resp (Some unit) units Orig = goes_on_same units.orig
added_goes_on Resp (Some unit) units Resp = (unit ∷ [], refl)

units_go_on : (ask : Side → Both (List MessageUnit) → Option MessageUnit) (units : Both (List MessageUnit)) (sides : List Side)
    → GoOn units (units_behind ask units sides)
units_go_on ask units [] side = goes_on_same (of_side side units)
units_go_on ask units (asked ∷ sides) side =
    let more = add asked (ask asked units) units in
    goes_on_along (of_side side units) (of_side side more) (of_side side (units_behind ask more sides))
    (added_goes_on asked (ask asked units) units side) (units_go_on ask more sides side)

-- an element that passes is none of a list in which none does
none_passes : (test : MessageUnit → Bool) (front rest : List MessageUnit) (unit : MessageUnit) → list_any test (front ++ unit ∷ rest) ≡ false → test unit ≡ false
none_passes test [] rest unit none = (or_parts (test unit) (list_any test rest) none).0
none_passes test (first ∷ front) rest unit none =
    none_passes test front rest unit (or_parts (test first) (list_any test (front ++ unit ∷ rest)) none).1

-- the next unit, which is among all of them, waited for no other side
next_patient_same : (streams : Both Stream) (asked : Side) (units : Both (List MessageUnit)) (sides : List Side) (found : Option MessageUnit)
    → next asked streams units ≡ found
    → NonePair (units_behind (λ side. next side streams) (add asked found units) sides) → found ≡ without_unpaired found
next_patient_same streams asked units sides None is none = refl
next_patient_same streams asked units sides (Some unit) is none =
    sym (ap (λ unpaired. cond unpaired None (Some unit)) paired)
  where
    all : Both (List MessageUnit)
    all = units_behind (λ side. next side streams) (add asked (Some unit) units) sides

    own : (side : Side) → of_side side (add side (Some unit) units) ≡ of_side side units ++ unit ∷ []
    own Orig = refl
    own Resp = refl

    paired : is_unpaired unit ≡ false
    paired =
        let on = units_go_on (λ side. next side streams) (add asked (Some unit) units) sides asked in
        let stands : of_side asked all ≡ of_side asked units ++ unit ∷ on.0 =
        on.1 ∙ ap (λ xs. xs ++ on.0) (own asked) ∙ append_assoc (of_side asked units) (unit ∷ []) on.0 in
        none_passes is_unpaired (of_side asked units) on.0 unit (sym (ap (list_any is_unpaired) stands) ∙ none asked)

patient_behind : (streams : Both Stream) (units : Both (List MessageUnit)) (sides : List Side)
    → NonePair (units_behind (λ side. next side streams) units sides)
    → units_behind (λ side. next side streams) units sides ≡ units_behind (λ side. next_patient side streams) units sides
patient_behind streams units [] none = refl
patient_behind streams units (side ∷ sides) none =
    let same = next_patient_same streams side units sides (next side streams units) refl none in
    patient_behind streams (add side (next side streams units) units) sides none
    ∙ ap (λ found. units_behind (λ side. next_patient side streams) (add side found units) sides) same

pub patient_alone : ArePatient
patient_alone streams sides none = patient_behind streams no_units sides none
