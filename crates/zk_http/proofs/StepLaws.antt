-- What the calls say, from what their sides do.
use Rattle.std.proofs.Common.{◌≡◌, ℕ, ◌-◌, ◌≤◌, false, cond, List, [], ◌∷◌, length, drop, Option, None, Some, refl, sym, ap, subst, ◌∙◌, arith, length-drop}
use Rattle.std.specs.Prelude.{◌↔◌, Result, Ok, Err, IfOk, IfNone, OnErr, MatchOption, nat_lt}
use Rattle.std.specs.List.{last_or}
use Rattle.std.proofs.lemmas.Bool.{lt-ltb}
use Rattle.std.proofs.lemmas.Bool.Decides.{nat_tests}
use Rattle.std.proofs.lemmas.List.{length-map}
use Rattle.zk_base.specs.declared.network.Side.{Side}
use Rattle.zk_base.specs.declared.network.Side.TheVariants.{Orig, Resp}
use Rattle.zk_http.specs.declared.body.Asked.{Asked}
use Rattle.zk_http.specs.declared.half.Half.{Half}
use Rattle.zk_http.specs.declared.http.Http.{Http}
use Rattle.zk_http.specs.declared.units.Head.{Head as MessageHead}
use Rattle.zk_http.specs.declared.units.«Unit».{«Unit» as MessageUnit}
use Rattle.zk_http.specs.declared.units.UnitKind.{UnitKind}
use Rattle.zk_http.specs.declared.units.UnitKind.TheVariants as kind
use Rattle.zk_http.specs.Bodies.{asked_by}
use Rattle.zk_http.specs.BodyBytes.{body_bytes, body_places}
use Rattle.zk_http.specs.Cases.{Case, Before, Held, answers, behind, behind_request, behind_response, case_of, heads}
use Rattle.zk_http.specs.HalfStanding.{EndsMessage, HalfStands, HowStands, IsDone, between_case, waits_in}
use Rattle.zk_http.specs.HalfTurns.{HasGapIn, IsBetween, IsLentTo, Leaves, Moves, MovesOver, bytes_in_first}
use Rattle.zk_http.specs.Pairing.{KeepsPairs, TakesRequest, TakesRequestKind, TakesResponse, TakesResponseKind}
use Rattle.zk_http.specs.Places.{Stream, Both, of_side}
use Rattle.zk_http.specs.Reading.{Apart, phase_of, seen_at}
use Rattle.zk_http.specs.Standing.{StandsFor, HasGap, HasRead, IsAll, IsLent, IsSame, between_of, between_responses, half_of, is_told, is_waiting, seen_of, used_of}
use Rattle.zk_http.specs.Units.{next}
use Rattle.zk_http.proofs.PairLaws.{requests_go_on}

-- ---- where a side stands

pub side_stands : (side : Side) (http : Http) (streams : Both Stream) (units : Both (List MessageUnit)) → StandsFor http streams units
    → HalfStands side (half_of side http) (of_side side streams) (case_of side units) (of_side side units)
side_stands Orig http streams units stands = stands.orig
side_stands Resp http streams units stands = stands.resp

-- where a side stands behind the end of a message
request_between : (between : Case) (what : UnitKind) → IsDone what → behind_request between what ≡ between
request_between between (kind.Head head) done = absurd done
request_between between (kind.Done body header gap) done = refl
request_between between kind.Tunnel done = absurd done
request_between between (kind.Violation why) done = absurd done

response_between : (between : Case) (request : Option MessageHead) (what : UnitKind) → IsDone what → behind_response between request what ≡ between
response_between between request (kind.Head head) done = absurd done
response_between between request (kind.Done body header gap) done = refl
response_between between request kind.Tunnel done = absurd done
response_between between request (kind.Violation why) done = absurd done

behind_done : (between : Case) (of : UnitKind → Case) (last : Option MessageUnit) → ((what : UnitKind) → IsDone what → of what ≡ between) → EndsMessage last
    → behind between of last ≡ between
behind_done between of None each ends = refl
behind_done between of (Some unit) each ends = each unit.what ends

waiting_case : (items : List Asked) (told asked : ℕ) → length items ≡ asked - told → cond (nat_lt told asked) Before Held ≡ between_case (between_responses items)
waiting_case [] told asked count = ap (λ test. cond test Before Held) (test told asked (omega arith))
  where
    test : (a b : ℕ) → b ≤ a → nat_lt a b ≡ false
    test a b le = grind (arith, nat_tests)
waiting_case (first ∷ others) told asked count = ap (λ test. cond test Before Held) (lt-ltb told asked (omega arith))

pub side_between : (side : Side) (http : Http) (streams : Both Stream) (units : Both (List MessageUnit)) → StandsFor http streams units
    → IsBetween (half_of side http) (case_of side units) (between_of side http)
side_between Orig http streams units stands apart =
    let how : HowStands Apart Orig http.requests streams.orig (case_of Orig units) units.orig =
    subst (λ phase. HowStands phase Orig http.requests streams.orig (case_of Orig units) units.orig) apart stands.orig.how in
    behind_done _ (behind_request _) (last_or None units.orig) (λ what done. request_between _ what done) how.1 ∙ sym stands.between
side_between Resp http streams units stands apart =
    let how : HowStands Apart Resp http.responses streams.resp (case_of Resp units) units.resp =
    subst (λ phase. HowStands phase Resp http.responses streams.resp (case_of Resp units) units.resp) apart stands.resp.how in
    let count : length http.asked.items ≡ length (heads units.orig) - length (answers units.resp) =
    ap length stands.asked ∙ length-map (drop (length (answers units.resp)) (heads units.orig)) (λ (head : MessageHead). asked_by head.start)
    ∙ length-drop (length (answers units.resp)) (heads units.orig) in
    behind_done _ (behind_response _ _) (last_or None units.resp) (λ what done. response_between _ _ what done) how.1
    ∙ waiting_case http.asked.items (length (answers units.resp)) (length (heads units.orig)) count

-- ---- what is given

pub lent_to : (http : Http) (side : Side) (stream : Stream) (bytes : List ℕ) → IsLent http side stream bytes → IsLentTo (half_of side http) stream bytes
unfolding used_of is_told
lent_to http side stream bytes lent = record { bytes_are = lent.bytes_are; last = lent.last }

pub gap_in : (http : Http) (side : Side) (stream : Stream) (unused places after : ℕ) → HasGap http side stream unused places after → HasGapIn (half_of side http) stream unused places after
unfolding used_of
gap_in http side stream unused places after gap = record { bytes_are = gap.bytes_are; gap = gap.gap; front = gap.front }

-- ---- what is told

pub unit_told : (side : Side) (http : Http) (half : Half) (streams : Both Stream) (units : Both (List MessageUnit)) (bytes : List ℕ) (found : Option MessageUnit)
    → Moves side (half_of side http) half (of_side side streams) (case_of side units) (of_side side units) bytes found
    → MatchOption found (IsAll http side (of_side side streams) bytes → next side streams units ≡ None) (λ unit. next side streams units ≡ Some unit)
unfolding used_of is_told next
unit_told side http half streams units bytes None moves = λ all. moves.1 (record { front = all.front; told = all.told })
unit_told side http half streams units bytes (Some unit) gave = gave.next

pub gap_told : (side : Side) (half : Half) (streams : Both Stream) (units : Both (List MessageUnit)) (used : ℕ) (found : Option MessageUnit)
    → MovesOver side half (of_side side streams) (case_of side units) (of_side side units) used found
    → MatchOption found (((used ≡ 0) ↔ (case_of side units ≡ Held)) × (used ≡ 0 → next side streams units ≡ None)) (λ unit. next side streams units ≡ Some unit)
unfolding next
gap_told side half streams units used None moves = (moves.1, moves.2)
gap_told side half streams units used (Some unit) gave = gave.next

-- ---- the bytes of a body

-- those of a side's own
pub side_bytes : (side : Side) (http : Http) (streams : Both Stream) (units : Both (List MessageUnit))
    → body_bytes (used_of side http) side streams units ≡ bytes_in_first (half_of side http).used (of_side side streams) (case_of side units) (of_side side units)
unfolding used_of body_places
side_bytes side http streams units = refl

pub request_used : (old new : Http) (half : Half) (found : Option MessageUnit) → TakesRequest old new half found → new.requests.used ≡ half.used
request_used old new half None takes = ap (λ (half : Half). half.used) takes.0
request_used old new half (Some unit) takes = by_kind unit.what takes
  where
    by_kind : (what : UnitKind) → TakesRequestKind old new half what → new.requests.used ≡ half.used
    by_kind (kind.Head head) takes = takes.requests.used
    by_kind (kind.Done body header gap) takes = ap (λ (half : Half). half.used) takes.0
    by_kind kind.Tunnel takes = ap (λ (half : Half). half.used) takes.0
    by_kind (kind.Violation why) takes = ap (λ (half : Half). half.used) takes.0

pub response_used : (old new : Http) (half : Half) (found : Option MessageUnit) → TakesResponse old new half found → new.responses.used ≡ half.used
response_used old new half None takes = ap (λ (half : Half). half.used) takes.0
response_used old new half (Some unit) takes = by_kind unit.what takes
  where
    by_kind : (what : UnitKind) → TakesResponseKind old new half what → new.responses.used ≡ half.used
    by_kind (kind.Head head) takes = takes.responses.used
    by_kind (kind.Done body header gap) takes = ap (λ (half : Half). half.used) takes.0
    by_kind kind.Tunnel takes = ap (λ (half : Half). half.used) takes.0
    by_kind (kind.Violation why) takes = ap (λ (half : Half). half.used) takes.0

-- ---- what is left

pub request_left : (old new : Http) (half : Half) (found : Option MessageUnit) (left : ℕ) → TakesRequest old new half found → IfNone found (Leaves half old.between left)
    → IfNone found ((left ≤ 65536) × HasRead Orig new left)
unfolding HasRead is_waiting seen_of
request_left old new half None left takes leaves = (
  leaves.0,
  subst (λ half. waits_in (phase_of half.state) new.between ≡ false → seen_at half.state ≡ left) (sym takes.0)
      (subst (λ between. waits_in (phase_of half.state) between ≡ false → seen_at half.state ≡ left) (sym takes.1.between) leaves.1),
)
request_left old new half (Some unit) left takes leaves = leaves

pub response_left : (old new : Http) (half : Half) (found : Option MessageUnit) (left : ℕ) → TakesResponse old new half found
    → IfNone found (Leaves half (between_responses old.asked.items) left) → IfNone found ((left ≤ 65536) × HasRead Resp new left)
unfolding HasRead is_waiting seen_of
response_left old new half None left takes leaves = (
  leaves.0,
  subst (λ half. waits_in (phase_of half.state) (between_responses new.asked.items) ≡ false → seen_at half.state ≡ left) (sym takes.0)
      (subst (λ items. waits_in (phase_of half.state) (between_responses items) ≡ false → seen_at half.state ≡ left) (sym takes.1.asked) leaves.1),
)
response_left old new half (Some unit) left takes leaves = leaves

-- ---- where nothing has changed

pub same_all : (old new : Http) → new.requests ≡ old.requests → new.responses ≡ old.responses → KeepsPairs old new → IsSame old new
unfolding used_of seen_of is_told is_waiting
same_all old new requests responses keeps = record {
  stands = λ streams units stands. requests_go_on old new old.requests streams units stands stands.orig requests responses keeps;
  used = λ side. ap (λ (half : Half). half.used) (half_is side);
  seen = λ side. ap (λ (half : Half). seen_at half.state) (half_is side);
  told = λ side. ap (λ (half : Half). half.ended) (half_is side);
  waits = λ side. ap (λ (half : Half). waits_in (phase_of half.state) (between_of side new)) (half_is side)
      ∙ ap (λ between. waits_in (phase_of (half_of side old).state) between) (between_is side);
}
  where
    half_is : (side : Side) → half_of side new ≡ half_of side old
    half_is Orig = requests
    half_is Resp = responses

    between_is : (side : Side) → between_of side new ≡ between_of side old
    between_is Orig = keeps.between
    between_is Resp = ap between_responses keeps.asked

-- ---- answers of calls

pub if_both : {A E : Type 0} (answer : Result A E) (P Q R : A → Type 0) → ((value : A) → P value → Q value → R value) → IfOk answer P → IfOk answer Q → IfOk answer R
if_both (Ok value) P Q R goes first second = goes value first second
if_both (Err error) P Q R goes first second = first

pub if_three : {A E : Type 0} (answer : Result A E) (P Q R S : A → Type 0) → ((value : A) → P value → Q value → R value → S value)
    → IfOk answer P → IfOk answer Q → IfOk answer R → IfOk answer S
if_three (Ok value) P Q R S goes first second third = goes value first second third
if_three (Err error) P Q R S goes first second third = first

pub on_err : {A E : Type 0} (answer : Result A E) (P Q : Type 0) → (P → Q) → OnErr answer P → OnErr answer Q
on_err (Ok value) P Q goes holds = holds
on_err (Err error) P Q goes holds = goes holds
