-- How a unit of one side bears on the other.
use Rattle.std.specs.Prelude.{◌≡◌, ◌≤◌, true, false, List, [], ◌∷◌, ◌++◌, Option, None, Some, if◌then◌else◌}
use Rattle.zk_http.specs.declared.body.Asked.{Asked}
use Rattle.zk_http.specs.declared.body.Body.{Body}
use Rattle.zk_http.specs.declared.body.Body.TheVariants as of_body
use Rattle.zk_http.specs.declared.half.Between.{Between}
use Rattle.zk_http.specs.declared.half.Between.TheVariants.{Free, Waiting, Tunnelled}
use Rattle.zk_http.specs.declared.half.Half.{Half}
use Rattle.zk_http.specs.declared.http.Http.{Http}
use Rattle.zk_http.specs.declared.units.Head.{Head as MessageHead}
use Rattle.zk_http.specs.declared.units.«Unit».{«Unit» as MessageUnit}
use Rattle.zk_http.specs.declared.units.UnitKind.{UnitKind}
use Rattle.zk_http.specs.declared.units.UnitKind.TheVariants.{Head, Done, Tunnel, Violation}
use Rattle.zk_http.specs.Bodies.{asked_by, holds_back, is_interim, makes_tunnel, request_body, response_body}
use Rattle.zk_http.specs.HalfTurns.{StartsBody}
use Rattle.zk_http.specs.Reading.{seen_at}

-- what comes behind a request
abbrev pub between_behind : MessageHead → Between
between_behind head = if holds_back head then Waiting else Free

-- what comes behind the last request, once it is answered
abbrev pub between_answered : Between → Asked → MessageHead → Between
between_answered Free asked head = Free
between_answered Waiting asked head = if makes_tunnel asked head then Tunnelled else Free
between_answered Tunnelled asked head = Tunnelled

-- what comes behind the last request, once one with these waiting behind it is answered
abbrev pub between_left : List Asked → Between → Asked → MessageHead → Between
between_left [] between asked head = between_answered between asked head
between_left (next ∷ others) between asked head = between

-- the half goes on behind a head
pub record BehindHead (old : Half) (body : Body) (new : Half) : Type 0 where
  pub used : new.used ≡ old.used
  pub ended : new.ended ≡ old.ended
  pub seen : seen_at new.state ≤ seen_at old.state
  pub starts : StartsBody old body new

-- nothing waits and nothing is answered
pub record KeepsPairs (old new : Http) : Type 0 where
  pub asked : new.asked.items ≡ old.asked.items
  pub between : new.between ≡ old.between

-- ---- requests

pub record TakesHead (old new : Http) (half : Half) (head : MessageHead) : Type 0 where
  pub requests : BehindHead half (request_body head) new.requests
  pub asked : new.asked.items ≡ old.asked.items ++ asked_by head.start ∷ []
  pub between : new.between ≡ between_behind head

abbrev pub TakesRequestKind : Http → Http → Half → UnitKind → Type 0
TakesRequestKind old new half (Head head) = TakesHead old new half head
TakesRequestKind old new half (Done body header gap) = (new.requests ≡ half) × KeepsPairs old new
TakesRequestKind old new half Tunnel = (new.requests ≡ half) × KeepsPairs old new
TakesRequestKind old new half (Violation why) = (new.requests ≡ half) × KeepsPairs old new

abbrev pub TakesRequest : Http → Http → Half → Option MessageUnit → Type 0
TakesRequest old new half None = (new.requests ≡ half) × KeepsPairs old new
TakesRequest old new half (Some unit) = TakesRequestKind old new half unit.what

-- ---- responses

-- what a response is, and what it leaves of the requests that wait
pub record Answers (old new : Http) (head : MessageHead) (body : Body) : Type 0 where
  pub interim : is_interim head ≡ true → (body ≡ of_body.Empty) × KeepsPairs old new
  pub answer : is_interim head ≡ false → (asked : Asked) (others : List Asked) → old.asked.items ≡ asked ∷ others
      → (body ≡ response_body asked head) × (new.asked.items ≡ others) × (new.between ≡ between_left others old.between asked head)

pub record TakesAnswer (old new : Http) (half : Half) (head : MessageHead) : Type 0 where
  pub body : Body
  pub responses : BehindHead half body new.responses
  pub answers : Answers old new head body

abbrev pub TakesResponseKind : Http → Http → Half → UnitKind → Type 0
TakesResponseKind old new half (Head head) = TakesAnswer old new half head
TakesResponseKind old new half (Done body header gap) = (new.responses ≡ half) × KeepsPairs old new
TakesResponseKind old new half Tunnel = (new.responses ≡ half) × KeepsPairs old new
TakesResponseKind old new half (Violation why) = (new.responses ≡ half) × KeepsPairs old new

abbrev pub TakesResponse : Http → Http → Half → Option MessageUnit → Type 0
TakesResponse old new half None = (new.responses ≡ half) × KeepsPairs old new
TakesResponse old new half (Some unit) = TakesResponseKind old new half unit.what
