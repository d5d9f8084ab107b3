-- A unit of the responses leaves the reader standing for the units with this one.
use Rattle.std.proofs.Common.{◌≡◌, ℕ, zero, suc, ◌+◌, ◌-◌, ◌<◌, ◌≤◌, Bool, true, false, cond, List, [], ◌∷◌, ◌++◌, length, take, drop, map, Option, None, Some, refl, sym, ap, subst, ◌∙◌, arith, length-append, length-drop}
use Rattle.std.specs.Prelude.{IfSome, nat_le, nat_lt, slice_get}
use Rattle.std.specs.List.{last_or}
use Rattle.std.proofs.lemmas.Bool.{ltb-true}
use Rattle.std.proofs.lemmas.List.{take-append-drop}
use Rattle.std.proofs.lemmas.Option.{slice_get_past}
use Rattle.zk_base.specs.Places.{Place, gaps}
use Rattle.zk_base.specs.declared.network.Side.{Side}
use Rattle.zk_base.specs.declared.network.Side.TheVariants.{Orig, Resp}
use Rattle.zk_http.specs.declared.body.Asked.{Asked}
use Rattle.zk_http.specs.declared.body.Body.{Body}
use Rattle.zk_http.specs.declared.body.Body.TheVariants.{Empty, Length, Chunked, ToEnd, Tunnels, Unknown}
use Rattle.zk_http.specs.declared.half.Between.{Between}
use Rattle.zk_http.specs.declared.half.Between.TheVariants.{Free, Waiting, Tunnelled}
use Rattle.zk_http.specs.declared.half.Half.{Half}
use Rattle.zk_http.specs.declared.http.Http.{Http}
use Rattle.zk_http.specs.declared.units.Head.{Head as MessageHead}
use Rattle.zk_http.specs.declared.units.Reason.TheVariants.{Unpaired}
use Rattle.zk_http.specs.declared.units.«Unit».{«Unit» as MessageUnit}
use Rattle.zk_http.specs.declared.units.UnitKind.{UnitKind}
use Rattle.zk_http.specs.declared.units.UnitKind.TheVariants as kind
use Rattle.zk_http.specs.Bodies.{asked_by, holds_back, is_interim, makes_tunnel, response_body}
use Rattle.zk_http.specs.Cases.{Case, Before, Within, Held, Over, answer_case, answers, behind, behind_response, between_requests, case_of, head_in, heads}
use Rattle.zk_http.specs.Chunks.{chunked}
use Rattle.zk_http.specs.HalfStanding.{HalfStands, between_case}
use Rattle.zk_http.specs.HalfTurns.{Gave, Moves, MovesOver}
use Rattle.zk_http.specs.Pairing.{KeepsPairs, TakesAnswer, TakesRequestKind, TakesResponse, TakesResponseKind, between_answered, between_left}
use Rattle.zk_http.specs.Places.{Stream, Both}
use Rattle.zk_http.specs.Reads.{Answer, Waits, Gives, Refuses, Reads, later, and_then, any_places, gives}
use Rattle.zk_http.specs.Standing.{StandsFor}
use Rattle.zk_http.specs.Starts.{state_behind}
use Rattle.zk_http.specs.Turns.{IsNoHead}
use Rattle.zk_http.specs.Units.{add, decide_body, header_length, next_in, place, to_end, unit_at, waiting_limit}
use Rattle.zk_http.proofs.CaseLaws.{case_settled}
use Rattle.zk_http.proofs.HalfLaws.{last_of}
use Rattle.zk_http.proofs.PairLaws.{request_kind, requests_go_on, answers_added, answers_interim, answers_same, behind_last, body_stands, done_stands, over_stands, stands_other}

-- ---- only where a message begins is a head told

NoHeadIn : Answer UnitKind → Type 0
NoHeadIn (Waits used) = Unit {0}
NoHeadIn (Gives used what) = IsNoHead what
NoHeadIn (Refuses used why) = Unit {0}

later_no_head : (n : ℕ) (answer : Answer UnitKind) → NoHeadIn answer → NoHeadIn (later n answer)
unfolding NoHeadIn
later_no_head n (Waits used) none = tt
later_no_head n (Gives used what) none = none
later_no_head n (Refuses used why) none = tt

then_no_head : {A : Type 0} (answer : Answer A) (next : A → Reads UnitKind) (places : List Place) → ((value : A) (rest : List Place) → NoHeadIn (next value rest))
    → NoHeadIn (and_then answer next places)
unfolding NoHeadIn
then_no_head (Waits used) next places none = tt
then_no_head (Gives used value) next places none = later_no_head used (next value (drop used places)) (none value (drop used places))
then_no_head (Refuses used why) next places none = tt

body_no_head : (body : Body) (header : ℕ) (ended : Bool) (places : List Place) → NoHeadIn (decide_body body header ended places)
unfolding NoHeadIn
body_no_head Empty header ended places = tt
body_no_head (Length n) header ended places = then_no_head (any_places n places) (λ gap. gives (kind.Done n header gap)) places (λ gap rest. tt)
body_no_head Chunked header ended places =
    then_no_head (chunked (record { body = 0; gap = 0 }) places) (λ amount. gives (kind.Done amount.body header amount.gap)) places (λ amount rest. tt)
body_no_head ToEnd header ended places = then_no_head (to_end ended places) (λ all. gives (kind.Done (length all) header (gaps all))) places (λ all rest. tt)
body_no_head Tunnels header ended places = tt
body_no_head (Unknown why) header ended places = tt

held_no_head : (many : Bool) → NoHeadIn (cond many (Refuses (waiting_limit + 1) Unpaired) (Waits 0))
unfolding NoHeadIn
held_no_head true = tt
held_no_head false = tt

unit_no_head : (from : ℕ) (answer : Answer UnitKind) (unit : MessageUnit) (head : MessageHead) → NoHeadIn answer → unit_at from answer ≡ Some unit → unit.what ≡ kind.Head head → ⊥
unfolding NoHeadIn
unit_no_head from (Waits used) unit head none is what = cc
unit_no_head from (Gives used found) unit head none is what =
    let same : record { place = from + used; what = found } ≡ unit = cc in
    subst IsNoHead (ap (λ (unit : MessageUnit). unit.what) same ∙ what) none
unit_no_head from (Refuses used why) unit head none is what =
    let same : record { place = from + used; what = kind.Violation why } ≡ unit = cc in
    let different : kind.Violation why ≡ kind.Head head = ap (λ (unit : MessageUnit). unit.what) same ∙ what in
    cc

head_before : (stream : Stream) (side : Side) (case : Case) (units : List MessageUnit) (unit : MessageUnit) (head : MessageHead)
    → next_in stream side case units ≡ Some unit → unit.what ≡ kind.Head head → case ≡ Before
head_before stream side Before units unit head next what = refl
head_before stream side (Within body) units unit head next what = absurd (by_test (nat_le (place units) (length stream.places)) next)
  where
    by_test : (test : Bool) → cond test (unit_at (place units) (decide_body body (header_length stream units) stream.ended (drop (place units) stream.places))) None ≡ Some unit → ⊥
    by_test true next = unit_no_head (place units) _ unit head (body_no_head body (header_length stream units) stream.ended (drop (place units) stream.places)) next what
    by_test false next = cc
head_before stream side Held units unit head next what = absurd (by_test (nat_le (place units) (length stream.places)) next)
  where
    by_test : (test : Bool) → cond test (unit_at (place units) (cond (nat_lt waiting_limit (length (drop (place units) stream.places))) (Refuses (waiting_limit + 1) Unpaired) (Waits 0))) None ≡ Some unit → ⊥
    by_test true next = unit_no_head (place units) _ unit head (held_no_head (nat_lt waiting_limit (length (drop (place units) stream.places)))) next what
    by_test false next = cc
head_before stream side Over units unit head next what = absurd (by_test (nat_le (place units) (length stream.places)) next)
  where
    by_test : (test : Bool) → cond test (unit_at (place units) (Waits (length (drop (place units) stream.places)))) None ≡ Some unit → ⊥
    by_test true next = cc
    by_test false next = cc

-- ---- the request that is answered

kind_before : (between : Case) (request : Option MessageHead) (what : UnitKind) → behind_response between request what ≡ Before → between ≡ Before
kind_before between request (kind.Head head) is = absurd (by_test (is_interim head) request is)
  where
    by_test : (interim : Bool) (request : Option MessageHead) → cond interim (Within Empty) (answer_case head request) ≡ Before → ⊥
    by_test true request is = cc
    by_test false None is = cc
    by_test false (Some asked) is = cc
kind_before between request (kind.Done body header gap) is = is
kind_before between request kind.Tunnel is = absurd cc
kind_before between request (kind.Violation why) is = absurd cc

behind_before : (between : Case) (request : Option MessageHead) (last : Option MessageUnit) → behind between (behind_response between request) last ≡ Before → between ≡ Before
behind_before between request None is = is
behind_before between request (Some unit) is = kind_before between request unit.what is

-- where a response begins, a request waits for it
pub one_waits : (units : Both (List MessageUnit)) → case_of Resp units ≡ Before → length (answers units.resp) < length (heads units.orig)
one_waits units is =
    by_test (nat_lt (length (answers units.resp)) (length (heads units.orig))) refl
    (behind_before _ (slice_get (heads units.orig) (length (answers units.resp) - 1)) (last_or None units.resp) is)
  where
    by_test : (test : Bool) → nat_lt (length (answers units.resp)) (length (heads units.orig)) ≡ test → cond test Before Held ≡ Before
        → length (answers units.resp) < length (heads units.orig)
    by_test true fewer is = ltb-true (length (answers units.resp)) (length (heads units.orig)) fewer
    by_test false fewer is = absurd cc

-- the element at a place, and those behind it
pub one_at : {A : Type 0} (xs : List A) (k : ℕ) → k < length xs → (x : A) × (slice_get xs k ≡ Some x) × (drop k xs ≡ x ∷ drop (suc k) xs)
one_at [] k lt = absurd (omega arith)
one_at (x ∷ xs) zero lt = (x, refl, refl)
one_at (x ∷ xs) (suc k) lt = one_at xs k (omega arith)

get_added : {A : Type 0} (xs : List A) (x : A) → slice_get (xs ++ x ∷ []) (length xs) ≡ Some x
get_added [] x = refl
get_added (first ∷ xs) x = get_added xs x

-- ---- what comes behind the last request

answered_last : (between : Between) (asked : Asked) (answer : MessageHead) (holds : Bool) → between_case between ≡ cond holds Held Before
    → between_case (between_answered between asked answer) ≡ cond holds (cond (makes_tunnel asked answer) Over Before) Before
answered_last Free asked answer true is = absurd cc
answered_last Free asked answer false is = refl
answered_last Waiting asked answer false is = absurd cc
answered_last Waiting asked answer true is = by_test (makes_tunnel asked answer)
  where
    by_test : (tunnel : Bool) → between_case (cond tunnel Tunnelled Free) ≡ cond tunnel Over Before
    by_test true = refl
    by_test false = refl
answered_last Tunnelled asked answer true is = absurd cc
answered_last Tunnelled asked answer false is = absurd cc

-- how the last request stands behind one more answer
left_stands : (between : Between) (asked found : List MessageHead) (request answer : MessageHead) (rest : List MessageHead)
    → drop (length found) asked ≡ request ∷ rest
    → between_case between ≡ between_requests (last_or None asked) (slice_get found (length asked - 1))
    → between_case (between_left (map (λ (head : MessageHead). asked_by head.start) rest) between (asked_by request.start) answer)
    ≡ between_requests (last_or None asked) (slice_get (found ++ answer ∷ []) (length asked - 1))
left_stands between asked found request answer [] waiting is =
    answered_last between (asked_by request.start) answer (holds_back request) (is ∙ before)
    ∙ sym (ap (λ last. between_requests last (slice_get (found ++ answer ∷ []) (length asked - 1))) last
    ∙ ap (λ k. between_requests (Some request) (slice_get (found ++ answer ∷ []) k)) index
    ∙ ap (between_requests (Some request)) (get_added found answer))
  where
    left : length asked - length found ≡ 1
    left = sym (length-drop (length found) asked) ∙ ap length waiting

    index : length asked - 1 ≡ length found
    index = omega (arith, left)

    last : last_or None asked ≡ Some request
    last =
        ap (last_or None) (sym (take-append-drop (length found) asked) ∙ ap (λ rest. take (length found) asked ++ rest) waiting)
        ∙ last_of None (take (length found) asked) request

    before : between_requests (last_or None asked) (slice_get found (length asked - 1)) ≡ cond (holds_back request) Held Before
    before =
        ap (λ last. between_requests last (slice_get found (length asked - 1))) last
        ∙ ap (between_requests (Some request)) (slice_get_past found (length asked - 1) (omega (arith, index)))
left_stands between asked found request answer (next ∷ rest) waiting is =
    is ∙ ap (between_requests (last_or None asked))
    (slice_get_past found (length asked - 1) (omega (arith, left)) ∙ sym (slice_get_past (found ++ answer ∷ []) (length asked - 1) (omega (arith, left, length-append found (answer ∷ [])))))
  where
    left : length asked - length found ≡ suc (suc (length rest))
    left = sym (length-drop (length found) asked) ∙ ap length waiting

-- ---- responses

abbrev more_responses : Both (List MessageUnit) → MessageUnit → Both (List MessageUnit)
more_responses units unit = add Resp (Some unit) units

requests_stand : (half : Half) (stream : Stream) (units : Both (List MessageUnit)) (unit : MessageUnit) → HalfStands Orig half stream (case_of Orig units) units.orig
    → HalfStands Orig half stream (case_of Orig (more_responses units unit)) units.orig
requests_stand half stream units unit stands =
    stands_other Orig half stream (case_of Orig units) (case_of Orig (more_responses units unit)) units.orig
    (case_settled Orig units (more_responses units unit) refl (unit ∷ [], refl)) stands

-- behind a unit that is no answer, what waits is the same
plain_response : (old new : Http) (streams : Both Stream) (units : Both (List MessageUnit)) (unit : MessageUnit) → answers (units.resp ++ unit ∷ []) ≡ answers units.resp
    → StandsFor old streams units → HalfStands Resp new.responses streams.resp (case_of Resp (more_responses units unit)) (units.resp ++ unit ∷ [])
    → new.requests ≡ old.requests → KeepsPairs old new → StandsFor new streams (more_responses units unit)
plain_response old new streams units unit same stands own requests keeps = record {
  orig = subst (λ half. HalfStands Orig half streams.orig (case_of Orig (more_responses units unit)) units.orig) (sym requests)
      (requests_stand old.requests streams.orig units unit stands.orig);
  resp = own;
  asked = keeps.asked ∙ stands.asked
      ∙ ap (λ (found : List MessageHead). map (λ (head : MessageHead). asked_by head.start) (drop (length found) (heads units.orig))) (sym same);
  paired = subst (λ (found : List MessageHead). length found ≤ length (heads units.orig)) (sym same) stands.paired;
  between = ap between_case keeps.between ∙ stands.between
      ∙ ap (λ found. between_requests (last_or None (heads units.orig)) (slice_get found (length (heads units.orig) - 1))) (sym same);
}

-- where the body of a response stands
response_case : (units : Both (List MessageUnit)) (unit : MessageUnit) (head : MessageHead) (interim : Bool) → unit.what ≡ kind.Head head → is_interim head ≡ interim
    → case_of Resp (more_responses units unit)
    ≡ cond interim (Within Empty) (answer_case head (slice_get (heads units.orig) (length (answers (units.resp ++ unit ∷ [])) - 1)))
response_case units unit head interim is interim_is =
    behind_last _ (behind_response _ _) units.resp unit ∙ ap (behind_response _ _) is
    ∙ ap (λ interim. cond interim (Within Empty) (answer_case head (slice_get (heads units.orig) (length (answers (units.resp ++ unit ∷ [])) - 1)))) interim_is

answer_response : (old new : Http) (half : Half) (streams : Both Stream) (units : Both (List MessageUnit)) (unit : MessageUnit) (head : MessageHead) (interim : Bool)
    → is_interim head ≡ interim → unit.what ≡ kind.Head head → StandsFor old streams units → Gave Resp half streams.resp (case_of Resp units) units.resp unit
    → TakesAnswer old new half head → new.requests ≡ old.requests → StandsFor new streams (more_responses units unit)
answer_response old new half streams units unit head true interim is stands gave takes requests =
    let empty = takes.answers.interim interim in
    plain_response old new streams units unit (answers_interim units.resp unit head is interim) stands
    (body_stands Resp half new.responses streams.resp (case_of Resp (more_responses units unit)) units.resp unit head takes.body is gave.behind takes.responses
    (response_case units unit head true is interim ∙ ap Within (sym empty.0))) requests empty.1
answer_response old new half streams units unit head false final is stands gave takes requests = record {
  orig = subst (λ half. HalfStands Orig half streams.orig (case_of Orig (more_responses units unit)) units.orig) (sym requests)
      (requests_stand old.requests streams.orig units unit stands.orig);
  resp = body_stands Resp half new.responses streams.resp (case_of Resp (more_responses units unit)) units.resp unit head takes.body is gave.behind takes.responses
      (response_case units unit head false is final ∙ ap (λ k. answer_case head (slice_get asked k)) index ∙ ap (answer_case head) first.1 ∙ ap Within (sym answer.0));
  asked = answer.1 ∙ ap (λ n. map (λ (head : MessageHead). asked_by head.start) (drop n asked)) (sym count);
  paired = omega (arith, count, waits);
  between =
      ap between_case answer.2
      ∙ left_stands old.between asked found first.0 head (drop (suc told) asked) first.2 stands.between
      ∙ ap (λ found. between_requests (last_or None asked) (slice_get found (length asked - 1))) (sym added);
}
  where
    asked : List MessageHead
    asked = heads units.orig

    found : List MessageHead
    found = answers units.resp

    told : ℕ
    told = length found

    added : answers (units.resp ++ unit ∷ []) ≡ found ++ head ∷ []
    added = answers_added units.resp unit head is final

    count : length (answers (units.resp ++ unit ∷ [])) ≡ suc told
    count = let more : told + 1 ≡ suc told = omega arith in ap length added ∙ length-append found (head ∷ []) ∙ more

    index : length (answers (units.resp ++ unit ∷ [])) - 1 ≡ told
    index = omega (arith, count)

    waits : told < length asked
    waits = one_waits units (head_before streams.resp Resp (case_of Resp units) units.resp unit head gave.next is)

    first : (request : MessageHead) × (slice_get asked told ≡ Some request) × (drop told asked ≡ request ∷ drop (suc told) asked)
    first = one_at asked told waits

    answer : (takes.body ≡ response_body (asked_by first.0.start) head)
        × (new.asked.items ≡ map (λ (head : MessageHead). asked_by head.start) (drop (suc told) asked))
        × (new.between ≡ between_left (map (λ (head : MessageHead). asked_by head.start) (drop (suc told) asked)) old.between (asked_by first.0.start) head)
    answer =
        takes.answers.answer final (asked_by first.0.start) (map (λ (head : MessageHead). asked_by head.start) (drop (suc told) asked))
        (stands.asked ∙ ap (map (λ (head : MessageHead). asked_by head.start)) first.2)

response_kind : (old new : Http) (half : Half) (streams : Both Stream) (units : Both (List MessageUnit)) (unit : MessageUnit) (what : UnitKind) → unit.what ≡ what
    → StandsFor old streams units → Gave Resp half streams.resp (case_of Resp units) units.resp unit → TakesResponseKind old new half what → new.requests ≡ old.requests
    → StandsFor new streams (more_responses units unit)
response_kind old new half streams units unit (kind.Head head) is stands gave takes requests =
    answer_response old new half streams units unit head (is_interim head) refl is stands gave takes requests
response_kind old new half streams units unit (kind.Done body header gap) is stands gave takes requests =
    plain_response old new streams units unit (answers_same units.resp unit (ap head_in is)) stands
    (subst (λ half. HalfStands Resp half streams.resp (case_of Resp (more_responses units unit)) (units.resp ++ unit ∷ [])) (sym takes.0)
    (done_stands Resp half streams.resp (case_of Resp (more_responses units unit)) units.resp unit body header gap is gave.behind)) requests takes.1
response_kind old new half streams units unit kind.Tunnel is stands gave takes requests =
    plain_response old new streams units unit (answers_same units.resp unit (ap head_in is)) stands
    (subst (λ half. HalfStands Resp half streams.resp (case_of Resp (more_responses units unit)) (units.resp ++ unit ∷ [])) (sym takes.0)
    (over_stands Resp half streams.resp (case_of Resp (more_responses units unit)) units.resp unit (λ header. ap (state_behind header) is) gave.behind
    (behind_last _ (behind_response _ _) units.resp unit ∙ ap (behind_response _ _) is))) requests takes.1
response_kind old new half streams units unit (kind.Violation why) is stands gave takes requests =
    plain_response old new streams units unit (answers_same units.resp unit (ap head_in is)) stands
    (subst (λ half. HalfStands Resp half streams.resp (case_of Resp (more_responses units unit)) (units.resp ++ unit ∷ [])) (sym takes.0)
    (over_stands Resp half streams.resp (case_of Resp (more_responses units unit)) units.resp unit (λ header. ap (state_behind header) is) gave.behind
    (behind_last _ (behind_response _ _) units.resp unit ∙ ap (behind_response _ _) is))) requests takes.1

-- where the responses go on without a unit
pub responses_go_on : (old new : Http) (half : Half) (streams : Both Stream) (units : Both (List MessageUnit)) → StandsFor old streams units
    → HalfStands Resp half streams.resp (case_of Resp units) units.resp → new.responses ≡ half → new.requests ≡ old.requests → KeepsPairs old new → StandsFor new streams units
responses_go_on old new half streams units stands own responses requests keeps = record {
  orig = subst (λ half. HalfStands Orig half streams.orig (case_of Orig units) units.orig) (sym requests) stands.orig;
  resp = subst (λ half. HalfStands Resp half streams.resp (case_of Resp units) units.resp) (sym responses) own;
  asked = keeps.asked ∙ stands.asked;
  paired = stands.paired;
  between = ap between_case keeps.between ∙ stands.between;
}

-- behind what a step of the responses has told
pub response_stands : (old new : Http) (half : Half) (streams : Both Stream) (units : Both (List MessageUnit)) (bytes : List ℕ) (found : Option MessageUnit)
    → StandsFor old streams units → Moves Resp old.responses half streams.resp (case_of Resp units) units.resp bytes found → TakesResponse old new half found
    → new.requests ≡ old.requests → StandsFor new streams (add Resp found units)
response_stands old new half streams units bytes None stands moves takes requests =
    responses_go_on old new half streams units stands moves.0 takes.0 requests takes.1
response_stands old new half streams units bytes (Some unit) stands gave takes requests =
    response_kind old new half streams units unit unit.what refl stands gave takes requests

-- ---- gaps

plain_request_kind : (old new : Http) (half : Half) (what : UnitKind) → IsNoHead what → new.requests ≡ half → KeepsPairs old new → TakesRequestKind old new half what
plain_request_kind old new half (kind.Head head) none requests keeps = absurd none
plain_request_kind old new half (kind.Done body header gap) none requests keeps = (requests, keeps)
plain_request_kind old new half kind.Tunnel none requests keeps = (requests, keeps)
plain_request_kind old new half (kind.Violation why) none requests keeps = (requests, keeps)

plain_response_kind : (old new : Http) (half : Half) (what : UnitKind) → IsNoHead what → new.responses ≡ half → KeepsPairs old new → TakesResponseKind old new half what
plain_response_kind old new half (kind.Head head) none responses keeps = absurd none
plain_response_kind old new half (kind.Done body header gap) none responses keeps = (responses, keeps)
plain_response_kind old new half kind.Tunnel none responses keeps = (responses, keeps)
plain_response_kind old new half (kind.Violation why) none responses keeps = (responses, keeps)

pub request_gap_stands : (old new : Http) (half : Half) (streams : Both Stream) (units : Both (List MessageUnit)) (used : ℕ) (found : Option MessageUnit) → StandsFor old streams units
    → MovesOver Orig half streams.orig (case_of Orig units) units.orig used found → IfSome found (λ unit. IsNoHead unit.what)
    → new.requests ≡ half → new.responses ≡ old.responses → KeepsPairs old new → StandsFor new streams (add Orig found units)
request_gap_stands old new half streams units used None stands moves none requests responses keeps =
    requests_go_on old new half streams units stands moves.0 requests responses keeps
request_gap_stands old new half streams units used (Some unit) stands gave none requests responses keeps =
    request_kind old new half streams units unit unit.what refl stands gave.behind (plain_request_kind old new half unit.what none requests keeps) responses

pub response_gap_stands : (old new : Http) (half : Half) (streams : Both Stream) (units : Both (List MessageUnit)) (used : ℕ) (found : Option MessageUnit) → StandsFor old streams units
    → MovesOver Resp half streams.resp (case_of Resp units) units.resp used found → IfSome found (λ unit. IsNoHead unit.what)
    → new.responses ≡ half → new.requests ≡ old.requests → KeepsPairs old new → StandsFor new streams (add Resp found units)
response_gap_stands old new half streams units used None stands moves none responses requests keeps =
    responses_go_on old new half streams units stands moves.0 responses requests keeps
response_gap_stands old new half streams units used (Some unit) stands gave none responses requests keeps =
    response_kind old new half streams units unit unit.what refl stands gave (plain_response_kind old new half unit.what none responses keeps) requests
