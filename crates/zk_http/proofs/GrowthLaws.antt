-- A next unit is given again when streams have grown.
use Rattle.std.proofs.Common.{◌≡◌, ℕ, ◌+◌, ◌-◌, ◌≤◌, Bool, true, false, cond, inl, inr, List, ◌++◌, length, take, drop, None, Some, refl, sym, ap, subst, ◌∙◌, arith, length-append, length-drop}
use Rattle.std.specs.Prelude.{nat_lt, nat_le}
use Rattle.std.proofs.lemmas.Bool.{leb-true, le-leb}
use Rattle.std.proofs.lemmas.List.{drop-append-le, take-append-le}
use Rattle.zk_base.specs.declared.network.Side.{Side}
use Rattle.zk_http.specs.declared.units.Reason.TheVariants.{Unpaired}
use Rattle.zk_http.specs.declared.units.«Unit».{«Unit» as MessageUnit}
use Rattle.zk_http.specs.declared.units.UnitKind.{UnitKind}
use Rattle.zk_http.specs.declared.units.UnitKind.TheVariants.{Violation}
use Rattle.zk_http.specs.Cases.{Case, Held, case_of}
use Rattle.zk_http.specs.Growth.{Grows, IsGivenAgain, IsInStream}
use Rattle.zk_http.specs.Lines.{text_length}
use Rattle.zk_base.specs.Places.{bytes_before_gap}
use Rattle.zk_http.specs.Places.{Stream, of_side}
use Rattle.zk_http.specs.Reads.{Answer, Waits, Gives, Refuses}
use Rattle.zk_http.specs.Units.{waiting_limit, decide, unit_at, place, header_length, next_in, next, is_unpaired}
use Rattle.zk_http.proofs.CaseLaws.{IsSettled, case_settled}
use Rattle.zk_http.proofs.ReadLaws.{IsWithin, Stays}
use Rattle.zk_http.proofs.UnitLaws.{decide_stays, decide_within}

unit_at_stays : (from : ℕ) (early late : Answer UnitKind) (unit : MessageUnit) → Stays early late → unit_at from early ≡ Some unit
    → unit_at from late ≡ Some unit
unit_at_stays from (Waits used) late unit stays is = absurd (cc)
unit_at_stays from (Gives used what) late unit stays is = ap (unit_at from) stays ∙ is
unit_at_stays from (Refuses used why) late unit stays is = ap (unit_at from) stays ∙ is

-- the head before a place that was reached has the length that it had
pub header_stays : (early late : Stream) (units : List MessageUnit) → Grows early late → place units ≤ length early.places
    → header_length late units ≡ header_length early units
header_stays early late units grows reached =
    ap (λ places. text_length (bytes_before_gap (drop (place (take (length units - 1) units)) (take (place units) places)))) grows.places
    ∙ ap (λ places. text_length (bytes_before_gap (drop (place (take (length units - 1) units)) places)))
    (take-append-le (place units) early.places grows.behind reached)

-- a side whose place was reached and that doesn't wait
decided_again : (early late : Stream) (side : Side) (case : Case) (units : List MessageUnit) (unit : MessageUnit) → Grows early late
    → (case ≡ Held → ⊥) → place units ≤ length early.places
    → unit_at (place units) (decide side case (header_length early units) early.ended (drop (place units) early.places)) ≡ Some unit
    → unit_at (place units) (decide side case (header_length late units) late.ended (drop (place units) late.places)) ≡ Some unit
decided_again early late side case units unit grows free reached is =
    let stays = decide_stays side case (header_length early units) early.ended late.ended (drop (place units) early.places) grows.behind grows.ended free in
    let rest : drop (place units) late.places ≡ drop (place units) early.places ++ grows.behind =
    ap (drop (place units)) grows.places ∙ drop-append-le (place units) early.places grows.behind reached in
    rw (header_stays early late units grows reached, rest)
    (unit_at_stays (place units) _ (decide side case (header_length early units) late.ended (drop (place units) early.places ++ grows.behind)) unit stays is)

next_in_again : (early late : Stream) (side : Side) (case : Case) (units : List MessageUnit) (unit : MessageUnit) → Grows early late
    → (case ≡ Held → ⊥) → next_in early side case units ≡ Some unit → next_in late side case units ≡ Some unit
next_in_again early late side case units unit grows free is = again (nat_le (place units) (length early.places)) refl is
  where
    again : (reached : Bool) → nat_le (place units) (length early.places) ≡ reached
        → cond reached (unit_at (place units) (decide side case (header_length early units) early.ended (drop (place units) early.places))) None ≡ Some unit
        → next_in late side case units ≡ Some unit
    again true le is =
        let reached = leb-true (place units) (length early.places) le in
        let still : nat_le (place units) (length late.places) ≡ true =
        le-leb (place units) (length late.places) (omega (arith, ap length grows.places, length-append early.places grows.behind)) in
        rw still (decided_again early late side case units unit grows free reached is)
    again false le is = absurd (cc)

-- a unit of a side that waits tells that too much waits
held_unpaired : (stream : Stream) (side : Side) (units : List MessageUnit) (unit : MessageUnit)
    → next_in stream side Held units ≡ Some unit → is_unpaired unit ≡ true
held_unpaired stream side units unit is = unpaired (nat_le (place units) (length stream.places)) (nat_lt waiting_limit (length (drop (place units) stream.places))) is
  where
    unpaired : (reached many : Bool)
        → cond reached (unit_at (place units) (cond many (Refuses (waiting_limit + 1) Unpaired) (Waits 0))) None ≡ Some unit → is_unpaired unit ≡ true
    unpaired true true is =
        let same : record { place = place units + (waiting_limit + 1); what = Violation Unpaired } ≡ unit = cc in
        ap is_unpaired (sym same)
    unpaired true false is = absurd (cc)
    unpaired false many is = absurd (cc)

pub given_again : IsGivenAgain
unfolding next
given_again side early late known longer unit grows same on is paired = again (case_settled side known longer same on)
  where
    free : case_of side known ≡ Held → ⊥
    free waits =
        let unpaired = held_unpaired (of_side side early) side (of_side side known) unit (subst (λ case. next_in (of_side side early) side case (of_side side known) ≡ Some unit) waits is) in
        cc

    again : IsSettled (case_of side known) (case_of side longer) → next_in (of_side side late) side (case_of side longer) (of_side side longer) ≡ Some unit
    again (inl waits) = absurd (free waits)
    again (inr settled) =
        rw (settled, same) (next_in_again (of_side side early) (of_side side late) side (case_of side known) (of_side side known) unit grows free is)

unit_at_within : (from n : ℕ) (answer : Answer UnitKind) (unit : MessageUnit) → IsWithin answer n → unit_at from answer ≡ Some unit
    → (from ≤ unit.place) × (unit.place ≤ from + n)
unit_at_within from n (Waits used) unit within is = absurd (cc)
unit_at_within from n (Gives used what) unit within is =
    let same : from + used ≡ unit.place = cc in
    (omega arith, omega arith)
unit_at_within from n (Refuses used why) unit within is =
    let same : from + used ≡ unit.place = cc in
    (omega arith, omega arith)

pub in_stream : IsInStream
unfolding next
in_stream side streams units unit is =
    within (nat_le (place (of_side side units)) (length (of_side side streams).places)) refl is
  where
    within : (reached : Bool) → nat_le (place (of_side side units)) (length (of_side side streams).places) ≡ reached
        → cond reached (unit_at (place (of_side side units)) (decide side (case_of side units) (header_length (of_side side streams) (of_side side units))
        (of_side side streams).ended (drop (place (of_side side units)) (of_side side streams).places))) None ≡ Some unit
        → (place (of_side side units) ≤ unit.place) × (unit.place ≤ length (of_side side streams).places)
    within true le is =
        let from = place (of_side side units) in
        let rest = drop from (of_side side streams).places in
        let answer = decide side (case_of side units) (header_length (of_side side streams) (of_side side units)) (of_side side streams).ended rest in
        let inside = unit_at_within from (length rest) answer unit
        (decide_within side (case_of side units) (header_length (of_side side streams) (of_side side units)) (of_side side streams).ended rest) is in
        let reached = leb-true from (length (of_side side streams).places) le in
        (inside.0, omega (arith, inside.1, length-drop from (of_side side streams).places))
    within false le is = absurd (cc)
