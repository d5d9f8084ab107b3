-- What a reader stands for stays when streams grow.
use Rattle.std.proofs.Common.{◌≡◌, ℕ, ◌≤◌, List, ◌++◌, length, take, drop, refl, sym, ap, subst, ◌∙◌, arith, append_assoc, length-append, length-take}
use Rattle.std.proofs.lemmas.List.{append-nil, drop-append-le, take-append-le}
use Rattle.zk_base.specs.Places.{Place, bytes_before_gap}
use Rattle.zk_base.specs.declared.network.Side.{Side}
use Rattle.zk_base.specs.declared.network.Side.TheVariants.{Orig, Resp}
use Rattle.zk_http.specs.declared.half.Half.{Half}
use Rattle.zk_http.specs.declared.search.Ending.TheVariants as ending
use Rattle.zk_http.specs.declared.state.Part.{Part}
use Rattle.zk_http.specs.declared.state.Part.TheVariants.{Places, ToEnd, Size, Chunk, Return, Feed, Trailer, Tunnel, Unknown}
use Rattle.zk_http.specs.declared.state.State.{State}
use Rattle.zk_http.specs.declared.state.State.TheVariants.{Between, Head, Body, Over}
use Rattle.zk_http.specs.declared.units.«Unit».{«Unit» as MessageUnit}
use Rattle.zk_http.specs.BodyBytes.{data_by}
use Rattle.zk_http.specs.Cases.{Case, case_of}
use Rattle.zk_http.specs.Growth.{Grows}
use Rattle.zk_http.specs.HalfStanding.{HalfStands, HowStands, IsInside}
use Rattle.zk_http.specs.Places.{Stream, of_side}
use Rattle.zk_http.specs.Reading.{Apart, Inside, KnowsAt, KnowsIn, Past, Phase, data_at, means_at, phase_of, seen_at, seen_in}
use Rattle.zk_http.specs.Reads.{later}
use Rattle.zk_http.specs.Standing.{LookWithin, StandAsTheyGrow, half_of, is_told, seen_of, used_of}
use Rattle.zk_http.specs.Units.{decide, header_length, place}
use Rattle.zk_http.proofs.GrowthLaws.{header_stays}
use Rattle.zk_http.proofs.HalfLaws.{knows_in_grows, searched_grows}
use Rattle.zk_http.proofs.StepLaws.{side_stands}

knows_at_grows : (state : State) (places behind : List Place) → KnowsAt state places → KnowsAt state (places ++ behind)
knows_at_grows Between places behind knows = tt
knows_at_grows (Head search) places behind knows = searched_grows search ending.Head 65536 places behind knows
knows_at_grows (Body reading) places behind knows = knows_in_grows reading.part places behind knows
knows_at_grows Over places behind knows = tt

inside_grows : (side : Side) (half : Half) (early late : Stream) (case : Case) (units : List MessageUnit) → Grows early late → half.used ≤ length early.places
    → IsInside side half early case units → IsInside side half late case units
inside_grows side half early late case units grows within inside = record {
  tells = record {
    free = inside.tells.free;
    tells = λ ended behind ends.
        ap (λ header. later (place units) (decide side case header ended (drop (place units) late.places ++ behind))) header
        ∙ ap (λ rest. later (place units) (decide side case (header_length early units) ended rest)) (rest (place units) behind reached)
        ∙ inside.tells.tells ended (grows.behind ++ behind)
        (λ over.
        let over_now = grows.ended over in
        let none = ends over_now.1 in
        (ap (λ behind. grows.behind ++ behind) none.0 ∙ append-nil grows.behind ∙ over_now.0, none.1))
        ∙ ap (λ rest. later half.used (means_at half.state side ended rest)) (sym (rest half.used behind within));
    begun = inside.tells.begun;
  };
  knows = subst (KnowsAt half.state) (sym more) (knows_at_grows half.state (drop half.used early.places) grows.behind inside.knows);
  head = inside.head;
  content = λ behind.
      subst (λ first. data_by case (first ++ behind) ≡ data_by case first ++ data_at half.state behind)
      (ap (drop (place units)) (sym (ap (take half.used) grows.places ∙ take-append-le half.used early.places grows.behind within))) (inside.content behind);
}
  where
    reached : place units ≤ length early.places
    reached = let begun = inside.tells.begun in omega arith

    header : header_length late units ≡ header_length early units
    header = header_stays early late units grows reached

    more : drop half.used late.places ≡ drop half.used early.places ++ grows.behind
    more = ap (drop half.used) grows.places ∙ drop-append-le half.used early.places grows.behind within

    rest : (n : ℕ) (behind : List Place) → n ≤ length early.places → drop n late.places ++ behind ≡ drop n early.places ++ (grows.behind ++ behind)
    rest n behind le =
        ap (λ places. drop n places ++ behind) grows.places
        ∙ ap (λ rest. rest ++ behind) (drop-append-le n early.places grows.behind le)
        ∙ append_assoc (drop n early.places) grows.behind behind

how_grows : (phase : Phase) (side : Side) (half : Half) (early late : Stream) (case : Case) (units : List MessageUnit) → Grows early late → half.used ≤ length early.places
    → HowStands phase side half early case units → HowStands phase side half late case units
how_grows Apart side half early late case units grows within how = how
how_grows Inside side half early late case units grows within how = inside_grows side half early late case units grows within how
how_grows Past side half early late case units grows within how = how

half_grows : (side : Side) (half : Half) (early late : Stream) (case : Case) (units : List MessageUnit) → Grows early late → HalfStands side half early case units
    → HalfStands side half late case units
half_grows side half early late case units grows stands = record {
  within = let within = stands.within in omega (arith, ap length grows.places, length-append early.places grows.behind);
  told = λ told. (grows.ended (stands.told told)).1;
  how = how_grows (phase_of half.state) side half early late case units grows stands.within stands.how;
}

pub stand_as_they_grow : StandAsTheyGrow
stand_as_they_grow http early late units stands grow = record {
  orig = half_grows Orig http.requests early.orig late.orig (case_of Orig units) units.orig (grow Orig) stands.orig;
  resp = half_grows Resp http.responses early.resp late.resp (case_of Resp units) units.resp (grow Resp) stands.resp;
  asked = stands.asked;
  paired = stands.paired;
  between = stands.between;
}

-- ---- what was looked at is there

seen_in_there : (part : Part) (places : List Place) → KnowsIn part places → seen_in part ≤ length (bytes_before_gap places)
seen_in_there (Places left) places knows = omega arith
seen_in_there ToEnd places knows = omega arith
seen_in_there (Size search) places knows = omega (arith, knows.seen, length-take 4096 (bytes_before_gap places))
seen_in_there (Chunk left) places knows = omega arith
seen_in_there Return places knows = omega arith
seen_in_there Feed places knows = omega arith
seen_in_there (Trailer search) places knows = omega (arith, knows.seen, length-take 65536 (bytes_before_gap places))
seen_in_there Tunnel places knows = omega arith
seen_in_there (Unknown why) places knows = omega arith

seen_there : (state : State) (side : Side) (half : Half) (stream : Stream) (case : Case) (units : List MessageUnit) → half.state ≡ state
    → HowStands (phase_of state) side half stream case units → seen_at state ≤ length (bytes_before_gap (drop half.used stream.places))
seen_there Between side half stream case units is how = omega arith
seen_there (Head search) side half stream case units is how =
    let knows : KnowsAt (Head search) (drop half.used stream.places) = subst (λ state. KnowsAt state (drop half.used stream.places)) is how.knows in
    omega (arith, knows.seen, length-take 65536 (bytes_before_gap (drop half.used stream.places)))
seen_there (Body reading) side half stream case units is how =
    seen_in_there reading.part (drop half.used stream.places) (subst (λ state. KnowsAt state (drop half.used stream.places)) is how.knows)
seen_there Over side half stream case units is how = omega arith

pub look_within : LookWithin
unfolding used_of seen_of is_told
look_within http streams units side stands =
    let own = side_stands side http streams units stands in
    (own.within, seen_there (half_of side http).state side (half_of side http) (of_side side streams) (case_of side units) (of_side side units) refl own.how, own.told)
