-- Where a side stands: what its last unit and the heads of the other side say of what comes next (RFC 9112, sections 6.3 and
-- 9.3; RFC 9110, sections 7.8 and 9.3.6).
use Rattle.std.specs.Prelude.{◌-◌, not, nat_lt, if◌then◌else◌, List, length, filter, filter_map, slice_get, Option, None, Some}
use Rattle.std.specs.List.{last_or}
use Rattle.zk_base.specs.declared.network.Side.{Side}
use Rattle.zk_base.specs.declared.network.Side.TheVariants.{Orig, Resp}
use Rattle.zk_http.specs.declared.units.Head.{Head as MessageHead}
use Rattle.zk_http.specs.declared.units.«Unit».{«Unit» as MessageUnit}
use Rattle.zk_http.specs.declared.units.UnitKind.{UnitKind}
use Rattle.zk_http.specs.declared.units.UnitKind.TheVariants.{Head, Done, Tunnel, Violation}
use Rattle.zk_http.specs.declared.body.Body.{Body}
use Rattle.zk_http.specs.declared.body.Body.TheVariants.{Empty}
use Rattle.zk_http.specs.Bodies.{is_interim, holds_back, makes_tunnel, asked_by, request_body, response_body}
use Rattle.zk_http.specs.Places.{Both}

pub data Case : Type 0 where
  -- a message begins
  Before : Case
  -- behind the head of a message with this body
  Within : (body : Body) → Case
  -- what stands here waits for the other side
  Held : Case
  -- the side gives nothing more
  Over : Case

-- ---- heads among the units

abbrev pub head_in : UnitKind → Option MessageHead
head_in (Head head) = Some head
head_in (Done body head gap) = None
head_in Tunnel = None
head_in (Violation reason) = None

abbrev pub heads : List MessageUnit → List MessageHead
heads units = filter_map (λ unit. head_in unit.what) units

-- the responses that answer a request: interim ones don't
abbrev pub answers : List MessageUnit → List MessageHead
answers units = filter (λ head. not (is_interim head)) (heads units)

-- ---- requests

-- behind a request whose stream waits for its response
abbrev pub until_answered : MessageHead → Option MessageHead → Case
until_answered request None = Held
until_answered request (Some answer) = if makes_tunnel (asked_by request.start) answer then Over else Before

-- behind the last request, by what answers it
abbrev pub between_requests : Option MessageHead → Option MessageHead → Case
between_requests None answer = Before
between_requests (Some request) answer = if holds_back request then until_answered request answer else Before

-- behind a unit of the requests
abbrev pub behind_request : Case → UnitKind → Case
behind_request between (Head head) = Within (request_body head)
behind_request between (Done body head gap) = between
behind_request between Tunnel = Over
behind_request between (Violation reason) = Over

-- ---- responses

-- behind the head of an answer, by the request that it answers
abbrev pub answer_case : MessageHead → Option MessageHead → Case
answer_case answer None = Held
answer_case answer (Some request) = Within (response_body (asked_by request.start) answer)

-- behind a unit of the responses
abbrev pub behind_response : Case → Option MessageHead → UnitKind → Case
behind_response between request (Head head) = if is_interim head then Within Empty else answer_case head request
behind_response between request (Done body head gap) = between
behind_response between request Tunnel = Over
behind_response between request (Violation reason) = Over

-- ---- both

-- behind the last unit, if there is one
abbrev pub behind : Case → (UnitKind → Case) → Option MessageUnit → Case
behind between of None = between
behind between of (Some unit) = of unit.what

abbrev pub case_of : Side → Both (List MessageUnit) → Case
case_of Orig units =
    let asked = heads units.orig in
    let between = between_requests (last_or None asked) (slice_get (answers units.resp) (length asked - 1)) in
    behind between (behind_request between) (last_or None units.orig)
case_of Resp units =
    let asked = heads units.orig in
    let told = length (answers units.resp) in
    let between = if nat_lt told (length asked) then Before else Held in
    behind between (behind_response between (slice_get asked (told - 1))) (last_or None units.resp)
