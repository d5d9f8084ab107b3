-- A side of HTTP that waits for the other.
use Rattle.std.proofs.Common.{◌≡◌, ℕ, ◌≤◌, true, cond, List, length, drop, Some, None, sym, ap, ◌∙◌, arith, ⊎_elim, ltb}
use Rattle.std.proofs.lemmas.Bool.{cases_Bool, le-leb}
use borrow.Author.Tests.{ltb-false}
use Rattle.zk_base.specs.Places.{Place}
use Rattle.zk_base.specs.declared.network.Side.{Side}
use Rattle.zk_base.specs.declared.network.Side.TheVariants.{Orig, Resp}
use Rattle.zk_http.specs.declared.half.Half.{Half}
use Rattle.zk_http.specs.declared.http.Http.{Http}
use Rattle.zk_http.specs.declared.units.«Unit».{«Unit» as HttpUnit}
use Rattle.zk_http.specs.Cases.{Case, Held, Over, case_of}
use Rattle.zk_http.specs.HalfStanding.{HowStands}
use Rattle.zk_http.specs.Places.{Both, Stream, of_side}
use Rattle.zk_http.specs.declared.units.Reason.TheVariants.{Unpaired}
use Rattle.zk_http.specs.Reads.{Refuses, Waits}
use Rattle.zk_http.specs.Reading.{Apart, Inside, Past, Phase, phase_of}
use Rattle.zk_http.specs.Standing.{StandsFor, used_of}
use Rattle.zk_http.specs.Units.{held, next, next_in, place, unit_at}
use Rattle.zk_http.proofs.StandingLaws.{look_within}
use Rattle.zk_units.specs.declared.unread.Unread.{Unread}
use Rattle.zk_units.specs.HttpTurns.{IsUnread}
use Rattle.zk_units.specs.Unread.{places_of}

by_phase : (phase : Phase) (side : Side) (half : Half) (stream : Stream) (case : Case) (units : List HttpUnit) → HowStands phase side half stream case units → case ≡ Held
    → half.used ≡ place units
by_phase Apart side half stream case units how held = how.0
by_phase Inside side half stream case units how held = absurd (how.tells.free held)
by_phase Past side half stream case units how held = absurd (apart (sym how ∙ held))
  where
    apart : Over ≡ Held → ⊥
    apart e = cc

held_used : (side : Side) (reader : Http) (streams : Both Stream) (units : Both (List HttpUnit)) → StandsFor reader streams units → case_of side units ≡ Held
    → used_of side reader ≡ place (of_side side units)
unfolding used_of
held_used Orig reader streams units stands held = by_phase (phase_of reader.requests.state) Orig reader.requests streams.orig (case_of Orig units) units.orig stands.orig.how held
held_used Resp reader streams units stands held = by_phase (phase_of reader.responses.state) Resp reader.responses streams.resp (case_of Resp units) units.resp stands.resp.how held

none_some : {A : Type 0} (x : A) → Some x ≡ None → ⊥
none_some x e = cc

few_held : (at : ℕ) (places : List Place) → unit_at at (held places) ≡ None → length places ≤ 65536
few_held at places none = ⊎_elim (λ many. absurd (too_many many)) (λ few. ltb-false 65536 (length places) few) (cases_Bool (ltb 65536 (length places)))
  where
    too_many : ltb 65536 (length places) ≡ true → ⊥
    too_many many = none_some _ (sym (ap (λ b. unit_at at (cond b (Refuses 65537 Unpaired) (Waits 0))) many) ∙ none)

next_held : (side : Side) (streams : Both Stream) (units : Both (List HttpUnit)) (case : Case) → case ≡ Held → next_in (of_side side streams) side case (of_side side units) ≡ None
    → place (of_side side units) ≤ length (of_side side streams).places → length (drop (place (of_side side units)) (of_side side streams).places) ≤ 65536
next_held side streams units case is none within =
    let us = of_side side units in
    let places = (of_side side streams).places in
    few_held (place us) (drop (place us) places)
    (sym (ap (λ b. cond b (unit_at (place us) (held (drop (place us) places))) None) (le-leb (place us) (length places) within))
    ∙ sym (ap (λ c. next_in (of_side side streams) side c us) is) ∙ none)

-- a side that waits and frees no unit has few places
pub few_waiting : (side : Side) (reader : Http) (u : Unread) (streams : Both Stream) (units : Both (List HttpUnit)) → StandsFor reader streams units
    → IsUnread side reader u (of_side side streams) → case_of side units ≡ Held → next side streams units ≡ None → length (places_of u) ≤ 65536
unfolding next
few_waiting side reader u streams units stands is held none =
    let used = held_used side reader streams units stands held in
    let within = (look_within reader streams units side stands).0 in
    omega (
      arith,
      ap length is.places_are,
      ap (λ n. length (drop n (of_side side streams).places)) used,
      next_held side streams units (case_of side units) held none (omega (arith, used, within)),
    )
