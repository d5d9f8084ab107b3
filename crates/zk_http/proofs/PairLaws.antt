-- A unit of one side leaves the reader standing for the units with this one.
use Rattle.std.proofs.Common.{◌≡◌, ℕ, ◌+◌, ◌-◌, ◌≤◌, Bool, true, false, not, cond, inl, inr, List, [], ◌∷◌, ◌++◌, length, take, drop, map, Option, None, Some, refl, sym, ap, subst, ◌∙◌, arith, length-append}
use Rattle.std.specs.Prelude.{nat_le, slice_get, filter}
use Rattle.std.specs.List.{cons_option, last_or}
use Rattle.std.proofs.lemmas.Option.{slice_get_past}
use Rattle.std.proofs.lemmas.Bool.{le-leb}
use Rattle.std.proofs.lemmas.List.{append-nil, drop-append-le, map-append}
use Rattle.std.proofs.lemmas.List.Elements.{filter-append, filter_map-append}
use Rattle.zk_base.specs.Places.{Place, gaps}
use Rattle.zk_base.specs.declared.network.Side.{Side}
use Rattle.zk_base.specs.declared.network.Side.TheVariants.{Orig, Resp}
use Rattle.zk_http.specs.declared.body.Body.{Body}
use Rattle.zk_http.specs.declared.body.Body.TheVariants.{Empty, Length, Chunked, ToEnd, Tunnels, Unknown}
use Rattle.zk_http.specs.declared.half.Between.TheVariants.{Free, Waiting}
use Rattle.zk_http.specs.declared.half.Half.{Half}
use Rattle.zk_http.specs.declared.http.Http.{Http}
use Rattle.zk_http.specs.declared.state.Part.{Part}
use Rattle.zk_http.specs.declared.state.Part.TheVariants as part
use Rattle.zk_http.specs.declared.state.Reading.{Reading}
use Rattle.zk_http.specs.declared.state.State.TheVariants as state
use Rattle.zk_http.specs.declared.units.Head.{Head as MessageHead}
use Rattle.zk_http.specs.declared.units.«Unit».{«Unit» as MessageUnit}
use Rattle.zk_http.specs.declared.units.UnitKind.{UnitKind}
use Rattle.zk_http.specs.declared.units.UnitKind.TheVariants as kind
use Rattle.zk_http.specs.Bodies.{asked_by, holds_back, is_interim, request_body}
use Rattle.zk_http.specs.BodyBytes.{data_by, data_in, first_places}
use Rattle.zk_http.specs.Cases.{Case, Before, Within, Over, answers, behind, behind_request, between_requests, case_of, head_in, heads, until_answered}
use Rattle.zk_http.specs.HalfStanding.{EndsMessage, HalfStands, HoldsData, IsDone, HeadBegins, HowStands, IsInside, between_case}
use Rattle.zk_http.specs.HalfTurns.{EndsAt, IsBehind, Moves}
use Rattle.zk_http.specs.Pairing.{BehindHead, KeepsPairs, TakesHead, TakesRequest, TakesRequestKind, between_behind}
use Rattle.zk_http.specs.Places.{Stream, Both}
use Rattle.zk_http.specs.Reading.{Phase, Apart, Inside, Past, KnowsAt, KnowsIn, data_from, done_behind, means, means_at, phase_of}
use Rattle.zk_http.specs.Reads.{Waits, Gives, and_then, any_places, gives, later}
use Rattle.zk_http.specs.Standing.{StandsFor}
use Rattle.zk_http.specs.Starts.{IsStart, state_behind}
use Rattle.zk_http.specs.Units.{add, decide, decide_body, header_length, place, to_end}
use Rattle.zk_http.proofs.CaseLaws.{IsSettled, case_settled}
use Rattle.zk_http.proofs.FollowLaws.{same_then}
use Rattle.zk_http.proofs.HalfLaws.{in_none, last_of, none_first, place_of_last}

-- ---- the other side

-- a side stands as it did when the other's units go on
how_other : (phase : Phase) (side : Side) (half : Half) (stream : Stream) (case again : Case) (units : List MessageUnit) → IsSettled case again
    → HowStands phase side half stream case units → HowStands phase side half stream again units
how_other Apart side half stream case again units settled how = how
how_other Inside side half stream case again units (inl held) how = absurd (how.tells.free held)
how_other Inside side half stream case again units (inr same) how = subst (λ case. IsInside side half stream case units) (sym same) how
how_other Past side half stream case again units (inl held) how = absurd cc
how_other Past side half stream case again units (inr same) how = same ∙ how

pub stands_other : (side : Side) (half : Half) (stream : Stream) (case again : Case) (units : List MessageUnit) → IsSettled case again
    → HalfStands side half stream case units → HalfStands side half stream again units
stands_other side half stream case again units settled stands = record {
  within = stands.within;
  told = stands.told;
  how = how_other (phase_of half.state) side half stream case again units settled stands.how;
}

-- ---- heads of units

heads-append : (units : List MessageUnit) (unit : MessageUnit) → heads (units ++ unit ∷ []) ≡ heads units ++ cons_option (head_in unit.what) []
heads-append units unit = filter_map-append (λ unit. head_in unit.what) units (unit ∷ [])

heads_same : (units : List MessageUnit) (unit : MessageUnit) → head_in unit.what ≡ None → heads (units ++ unit ∷ []) ≡ heads units
heads_same units unit none = heads-append units unit ∙ ap (λ found. heads units ++ cons_option found []) none ∙ append-nil (heads units)

heads_more : (units : List MessageUnit) (unit : MessageUnit) (head : MessageHead) → unit.what ≡ kind.Head head → heads (units ++ unit ∷ []) ≡ heads units ++ head ∷ []
heads_more units unit head is = heads-append units unit ∙ ap (λ what. heads units ++ cons_option (head_in what) []) is

abbrev answering : List MessageHead → List MessageHead
answering found = filter (λ head. not (is_interim head)) found

pub answers_same : (units : List MessageUnit) (unit : MessageUnit) → head_in unit.what ≡ None → answers (units ++ unit ∷ []) ≡ answers units
answers_same units unit none = ap answering (heads_same units unit none)

answers_more : (units : List MessageUnit) (unit : MessageUnit) (head : MessageHead) → unit.what ≡ kind.Head head
    → answers (units ++ unit ∷ []) ≡ answers units ++ cond (not (is_interim head)) (head ∷ []) []
answers_more units unit head is =
    ap answering (heads_more units unit head is) ∙ filter-append (λ head. not (is_interim head)) (heads units) (head ∷ [])

pub answers_interim : (units : List MessageUnit) (unit : MessageUnit) (head : MessageHead) → unit.what ≡ kind.Head head → is_interim head ≡ true
    → answers (units ++ unit ∷ []) ≡ answers units
answers_interim units unit head is interim =
    answers_more units unit head is ∙ ap (λ interim. answers units ++ cond (not interim) (head ∷ []) []) interim ∙ append-nil (answers units)

pub answers_added : (units : List MessageUnit) (unit : MessageUnit) (head : MessageHead) → unit.what ≡ kind.Head head → is_interim head ≡ false
    → answers (units ++ unit ∷ []) ≡ answers units ++ head ∷ []
answers_added units unit head is final =
    answers_more units unit head is ∙ ap (λ interim. answers units ++ cond (not interim) (head ∷ []) []) final

-- ---- where a side stands behind its last unit

pub behind_last : (between : Case) (of : UnitKind → Case) (units : List MessageUnit) (unit : MessageUnit) → behind between of (last_or None (units ++ unit ∷ [])) ≡ of unit.what
behind_last between of units unit = ap (behind between of) (last_of None units unit)

-- ---- the side's own half

-- the body that follows a head is read
start_means : (body : Body) (start : Part) (header : ℕ) (ended : Bool) (places : List Place) → IsStart body start
    → decide_body body header ended places ≡ means (record { part = start; header = header; body = 0; gap = 0 }) ended places
start_means Empty start header ended places is =
    let none : nat_le 0 (length places) ≡ true = le-leb 0 (length places) (omega arith) in
    sym (ap (λ start. means (record { part = start; header = header; body = 0; gap = 0 }) ended places) is
    ∙ ap (λ test. and_then (cond test (Gives 0 (gaps (take 0 places))) (Waits (length places))) (done_behind (record { part = part.Places 0; header = header; body = 0; gap = 0 }) 0) places) none)
start_means (Length n) start header ended places is =
    let none : n ≡ 0 + n = omega arith in
    same_then (any_places n places) (λ gap. gives (kind.Done n header gap)) (done_behind (record { part = part.Places n; header = header; body = 0; gap = 0 }) n) places
    (λ gap rest.
    let same : gap ≡ 0 + gap = omega arith in
    ap (λ n. Gives 0 (kind.Done n header gap)) none ∙ ap (λ gap. Gives 0 (kind.Done (0 + n) header gap)) same)
    ∙ ap (λ start. means (record { part = start; header = header; body = 0; gap = 0 }) ended places) (sym is)
start_means Chunked start header ended places is = ap (λ start. means (record { part = start; header = header; body = 0; gap = 0 }) ended places) (sym is.1)
start_means ToEnd start header ended places is =
    same_then (to_end ended places) (λ places. gives (kind.Done (length places) header (gaps places)))
    (λ places. done_behind (record { part = part.ToEnd; header = header; body = 0; gap = 0 }) (length places) (gaps places)) places
    (λ all rest.
    let count : length all ≡ 0 + length all = omega arith in
    let gap : gaps all ≡ 0 + gaps all = omega arith in
    ap (λ n. Gives 0 (kind.Done n header (gaps all))) count ∙ ap (λ gap. Gives 0 (kind.Done (0 + length all) header gap)) gap)
    ∙ ap (λ start. means (record { part = start; header = header; body = 0; gap = 0 }) ended places) (sym is)
start_means Tunnels start header ended places is = ap (λ start. means (record { part = start; header = header; body = 0; gap = 0 }) ended places) (sym is)
start_means (Unknown why) start header ended places is = ap (λ start. means (record { part = start; header = header; body = 0; gap = 0 }) ended places) (sym is)

start_knows : (body : Body) (start : Part) (places : List Place) → IsStart body start → KnowsIn start places
start_knows Empty start places is = subst (λ start. KnowsIn start places) (sym is) tt
start_knows (Length n) start places is = subst (λ start. KnowsIn start places) (sym is) tt
start_knows Chunked start places is = subst (λ start. KnowsIn start places) (sym is.1) (is.3 _)
start_knows ToEnd start places is = subst (λ start. KnowsIn start places) (sym is) tt
start_knows Tunnels start places is = subst (λ start. KnowsIn start places) (sym is) tt
start_knows (Unknown why) start places is = subst (λ start. KnowsIn start places) (sym is) tt

-- and its places are those that are read
start_data : (body : Body) (start : Part) (places : List Place) → IsStart body start → data_in body places ≡ data_from start places
start_data Empty start places is = sym (ap (λ start. data_from start places) is)
start_data (Length n) start places is = sym (ap (λ start. data_from start places) is)
start_data Chunked start places is = sym (ap (λ start. data_from start places) is.1)
start_data ToEnd start places is = sym (ap (λ start. data_from start places) is)
start_data Tunnels start places is = sym (ap (λ start. data_from start places) is)
start_data (Unknown why) start places is = sym (ap (λ start. data_from start places) is)

pub body_stands : (side : Side) (half new : Half) (stream : Stream) (case : Case) (units : List MessageUnit) (unit : MessageUnit) (head : MessageHead) (body : Body)
    → unit.what ≡ kind.Head head → IsBehind half stream units unit → BehindHead half body new → case ≡ Within body
    → HalfStands side new stream case (units ++ unit ∷ [])
body_stands side half new stream case units unit head body is behind started case_is = record {
  within = subst (λ used. used ≤ length stream.places) (sym started.used) behind.within;
  told = λ ended. behind.told (sym started.ended ∙ ended);
  how = subst (λ now. HowStands (phase_of now) side new stream case (units ++ unit ∷ [])) (sym then) inside;
}
  where
    header : ℕ
    header = header_length stream (units ++ unit ∷ [])

    begins : (start : Part) × IsStart body start × (new.state ≡ state.Body (record { part = start; header = header; body = 0; gap = 0 }))
    begins = started.starts header (behind.state ∙ ap (state_behind header) is)

    reading : Reading
    reading = record { part = begins.0; header = header; body = 0; gap = 0 }

    then : new.state ≡ state.Body reading
    then = begins.2

    at : place (units ++ unit ∷ []) ≡ new.used
    at = place_of_last units unit ∙ sym (subst (λ what. EndsAt half.used unit.place what) is behind.at) ∙ sym started.used

    content : HoldsData new.used (state.Body reading) stream case (units ++ unit ∷ [])
    content behind =
        let none : first_places new.used stream (units ++ unit ∷ []) ≡ [] = none_first new.used stream (units ++ unit ∷ []) (sym at) in
        subst (λ case. data_by case (first_places new.used stream (units ++ unit ∷ []) ++ behind)
        ≡ data_by case (first_places new.used stream (units ++ unit ∷ [])) ++ data_from begins.0 behind) (sym case_is)
        (subst (λ first. data_in body (first ++ behind) ≡ data_in body first ++ data_from begins.0 behind) (sym none)
        (start_data body begins.0 behind begins.1 ∙ ap (λ first. first ++ data_from begins.0 behind) (sym (in_none body))))

    inside : IsInside side new stream case (units ++ unit ∷ [])
    inside = record {
      tells = record {
        free = λ held. absurd cc;
        tells = λ ended rest ends.
            ap (λ case. later (place (units ++ unit ∷ [])) (decide side case header ended (drop (place (units ++ unit ∷ [])) stream.places ++ rest))) case_is
            ∙ ap (λ at. later at (decide_body body header ended (drop at stream.places ++ rest))) at
            ∙ ap (later new.used) (start_means body begins.0 header ended (drop new.used stream.places ++ rest) begins.1)
            ∙ ap (λ now. later new.used (means_at now side ended (drop new.used stream.places ++ rest))) (sym then);
        begun = omega (arith, at);
      };
      knows = subst (λ now. KnowsAt now (drop new.used stream.places)) (sym then) (start_knows body begins.0 (drop new.used stream.places) begins.1);
      head = subst (λ now. HeadBegins now new.used (units ++ unit ∷ [])) (sym then) tt;
      content = subst (λ now. HoldsData new.used now stream case (units ++ unit ∷ [])) (sym then) content;
    }

-- behind the end of a message
pub done_stands : (side : Side) (half : Half) (stream : Stream) (case : Case) (units : List MessageUnit) (unit : MessageUnit) (body header gap : ℕ)
    → unit.what ≡ kind.Done body header gap → IsBehind half stream units unit → HalfStands side half stream case (units ++ unit ∷ [])
done_stands side half stream case units unit body header gap is behind = record {
  within = behind.within;
  told = behind.told;
  how = subst (λ now. HowStands (phase_of now) side half stream case (units ++ unit ∷ [])) (sym (behind.state ∙ ap (state_behind _) is))
      (at ∙ sym (place_of_last units unit), subst EndsMessage (sym (last_of None units unit)) ends);
}
  where
    at : half.used ≡ unit.place
    at = subst (λ what. EndsAt half.used unit.place what) is behind.at

    ends : EndsMessage (Some unit)
    ends = subst IsDone (sym is) tt

-- behind a tunnel or a violation
pub over_stands : (side : Side) (half : Half) (stream : Stream) (case : Case) (units : List MessageUnit) (unit : MessageUnit)
    → ((header : ℕ) → state_behind header unit.what ≡ state.Over) → IsBehind half stream units unit → case ≡ Over → HalfStands side half stream case (units ++ unit ∷ [])
over_stands side half stream case units unit is behind over = record {
  within = behind.within;
  told = behind.told;
  how = subst (λ now. HowStands (phase_of now) side half stream case (units ++ unit ∷ [])) (sym (behind.state ∙ is _)) over;
}

-- ---- requests

-- both lists behind one more unit of the requests
abbrev more_requests : Both (List MessageUnit) → MessageUnit → Both (List MessageUnit)
more_requests units unit = add Orig (Some unit) units

responses_stand : (half : Half) (stream : Stream) (units : Both (List MessageUnit)) (unit : MessageUnit) → HalfStands Resp half stream (case_of Resp units) units.resp
    → HalfStands Resp half stream (case_of Resp (more_requests units unit)) units.resp
responses_stand half stream units unit stands =
    stands_other Resp half stream (case_of Resp units) (case_of Resp (more_requests units unit)) units.resp
    (case_settled Resp units (more_requests units unit) refl (unit ∷ [], refl)) stands

-- behind a unit that is no head, what waits is the same
plain_request : (old new : Http) (half : Half) (streams : Both Stream) (units : Both (List MessageUnit)) (unit : MessageUnit) → head_in unit.what ≡ None
    → StandsFor old streams units → HalfStands Orig half streams.orig (case_of Orig (more_requests units unit)) (units.orig ++ unit ∷ [])
    → new.requests ≡ half → new.responses ≡ old.responses → KeepsPairs old new → StandsFor new streams (more_requests units unit)
plain_request old new half streams units unit none stands own requests responses keeps = record {
  orig = subst (λ half. HalfStands Orig half streams.orig (case_of Orig (more_requests units unit)) (units.orig ++ unit ∷ [])) (sym requests) own;
  resp = subst (λ half. HalfStands Resp half streams.resp (case_of Resp (more_requests units unit)) units.resp) (sym responses)
      (responses_stand old.responses streams.resp units unit stands.resp);
  asked = keeps.asked ∙ stands.asked
      ∙ ap (λ found. map (λ (head : MessageHead). asked_by head.start) (drop (length (answers units.resp)) found)) (sym (heads_same units.orig unit none));
  paired = subst (λ found. length (answers units.resp) ≤ length found) (sym (heads_same units.orig unit none)) stands.paired;
  between = ap between_case keeps.between ∙ stands.between
      ∙ ap (λ found. between_requests (last_or None found) (slice_get (answers units.resp) (length found - 1))) (sym (heads_same units.orig unit none));
}

between_head : (head : MessageHead) → between_case (between_behind head) ≡ between_requests (Some head) None
between_head head = by_test (holds_back head)
  where
    by_test : (holds : Bool) → between_case (cond holds Waiting Free) ≡ cond holds (until_answered head None) Before
    by_test true = refl
    by_test false = refl

head_request : (old new : Http) (half : Half) (streams : Both Stream) (units : Both (List MessageUnit)) (unit : MessageUnit) (head : MessageHead) → unit.what ≡ kind.Head head
    → StandsFor old streams units → IsBehind half streams.orig units.orig unit → TakesHead old new half head → new.responses ≡ old.responses
    → StandsFor new streams (more_requests units unit)
head_request old new half streams units unit head is stands behind takes responses = record {
  orig = body_stands Orig half new.requests streams.orig (case_of Orig (more_requests units unit)) units.orig unit head (request_body head) is behind takes.requests
      (behind_last _ (behind_request _) units.orig unit ∙ ap (behind_request _) is);
  resp = subst (λ half. HalfStands Resp half streams.resp (case_of Resp (more_requests units unit)) units.resp) (sym responses)
      (responses_stand old.responses streams.resp units unit stands.resp);
  asked =
      takes.asked ∙ ap (λ items. items ++ asked_by head.start ∷ []) stands.asked
      ∙ sym (map-append (λ (head : MessageHead). asked_by head.start) (drop told (heads units.orig)) (head ∷ []))
      ∙ ap (map (λ (head : MessageHead). asked_by head.start)) (sym (drop-append-le told (heads units.orig) (head ∷ []) stands.paired))
      ∙ ap (λ found. map (λ (head : MessageHead). asked_by head.start) (drop told found)) (sym more);
  paired = let paired = stands.paired in omega (arith, ap length more, length-append (heads units.orig) (head ∷ []));
  between =
      ap between_case takes.between ∙ between_head head
      ∙ ap (between_requests (Some head)) (sym (slice_get_past (answers units.resp) (length (heads units.orig)) stands.paired))
      ∙ ap (λ k. between_requests (Some head) (slice_get (answers units.resp) k)) (sym last_index)
      ∙ ap (λ last. between_requests last (slice_get (answers units.resp) (length (heads units.orig ++ head ∷ []) - 1))) (sym (last_of None (heads units.orig) head))
      ∙ ap (λ found. between_requests (last_or None found) (slice_get (answers units.resp) (length found - 1))) (sym more);
}
  where
    told : ℕ
    told = length (answers units.resp)

    more : heads (units.orig ++ unit ∷ []) ≡ heads units.orig ++ head ∷ []
    more = heads_more units.orig unit head is

    last_index : length (heads units.orig ++ head ∷ []) - 1 ≡ length (heads units.orig)
    last_index = omega (arith, length-append (heads units.orig) (head ∷ []))

pub request_kind : (old new : Http) (half : Half) (streams : Both Stream) (units : Both (List MessageUnit)) (unit : MessageUnit) (what : UnitKind) → unit.what ≡ what
    → StandsFor old streams units → IsBehind half streams.orig units.orig unit → TakesRequestKind old new half what → new.responses ≡ old.responses
    → StandsFor new streams (more_requests units unit)
request_kind old new half streams units unit (kind.Head head) is stands behind takes responses =
    head_request old new half streams units unit head is stands behind takes responses
request_kind old new half streams units unit (kind.Done body header gap) is stands behind takes responses =
    plain_request old new half streams units unit (ap head_in is) stands
    (done_stands Orig half streams.orig (case_of Orig (more_requests units unit)) units.orig unit body header gap is behind) takes.0 responses takes.1
request_kind old new half streams units unit kind.Tunnel is stands behind takes responses =
    plain_request old new half streams units unit (ap head_in is) stands
    (over_stands Orig half streams.orig (case_of Orig (more_requests units unit)) units.orig unit (λ header. ap (state_behind header) is) behind
    (behind_last _ (behind_request _) units.orig unit ∙ ap (behind_request _) is)) takes.0 responses takes.1
request_kind old new half streams units unit (kind.Violation why) is stands behind takes responses =
    plain_request old new half streams units unit (ap head_in is) stands
    (over_stands Orig half streams.orig (case_of Orig (more_requests units unit)) units.orig unit (λ header. ap (state_behind header) is) behind
    (behind_last _ (behind_request _) units.orig unit ∙ ap (behind_request _) is)) takes.0 responses takes.1

-- where the requests go on without a unit
pub requests_go_on : (old new : Http) (half : Half) (streams : Both Stream) (units : Both (List MessageUnit)) → StandsFor old streams units
    → HalfStands Orig half streams.orig (case_of Orig units) units.orig → new.requests ≡ half → new.responses ≡ old.responses → KeepsPairs old new → StandsFor new streams units
requests_go_on old new half streams units stands own requests responses keeps = record {
  orig = subst (λ half. HalfStands Orig half streams.orig (case_of Orig units) units.orig) (sym requests) own;
  resp = subst (λ half. HalfStands Resp half streams.resp (case_of Resp units) units.resp) (sym responses) stands.resp;
  asked = keeps.asked ∙ stands.asked;
  paired = stands.paired;
  between = ap between_case keeps.between ∙ stands.between;
}

-- behind what a step of the requests has told
pub request_stands : (old new : Http) (half : Half) (streams : Both Stream) (units : Both (List MessageUnit)) (bytes : List ℕ) (found : Option MessageUnit)
    → StandsFor old streams units → Moves Orig old.requests half streams.orig (case_of Orig units) units.orig bytes found → TakesRequest old new half found
    → new.responses ≡ old.responses → StandsFor new streams (add Orig found units)
request_stands old new half streams units bytes None stands moves takes responses =
    requests_go_on old new half streams units stands moves.0 takes.0 responses takes.1
request_stands old new half streams units bytes (Some unit) stands gave takes responses =
    request_kind old new half streams units unit unit.what refl stands gave.behind takes responses
