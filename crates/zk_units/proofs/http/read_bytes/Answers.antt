use Rattle.std.proofs.Common.{◌≡◌, List, None, Some, IfOk, MatchOption, sym, subst}
use Rattle.zk_base.specs.declared.network.Side.{Side}
use Rattle.zk_http.specs.declared.units.«Unit».{«Unit» as HttpUnit}
use Rattle.zk_http.specs.Places.{Both, Stream, of_side}
use Rattle.zk_http.specs.Standing.{IsAll, IsLent, StandsFor}
use Rattle.zk_http.specs.Units.{add, next}
use Rattle.zk_units.proofs.HttpLemmas.{keeps_same, on_err}
use Rattle.zk_units.proofs.http.read_bytes.Goals as goal

pub returns-in-Orig-clause-stands : goal.returns-in-Orig-clause-stands
returns-in-Orig-clause-stands c = subst
    (λ (s : Side). IfOk c.request_bytes.result (λ step. (streams : Both Stream) (units : Both (List HttpUnit)) → StandsFor c.args.http.now streams units
    → IsLent c.args.http.now s (of_side s streams) c.args.bytes.now → StandsFor c.request_bytes.new.self streams (add s step.«unit» units)))
    (sym c.in-Orig.is) c.request_bytes.ensures.stands

pub returns-in-Orig-clause-found : goal.returns-in-Orig-clause-found
returns-in-Orig-clause-found c = subst
    (λ (s : Side). IfOk c.request_bytes.result (λ step. (streams : Both Stream) (units : Both (List HttpUnit)) → StandsFor c.args.http.now streams units
    → IsLent c.args.http.now s (of_side s streams) c.args.bytes.now
    → MatchOption step.«unit» (IsAll c.args.http.now s (of_side s streams) c.args.bytes.now → next s streams units ≡ None) (λ one. next s streams units ≡ Some one)))
    (sym c.in-Orig.is) c.request_bytes.ensures.«unit»

pub returns-in-Orig-clause-memory : goal.returns-in-Orig-clause-memory
returns-in-Orig-clause-memory c = on_err c.request_bytes.result c.request_bytes.ensures.memory (keeps_same c.args.side c.args.http.now c.request_bytes.new.self)

pub returns-in-Resp-clause-stands : goal.returns-in-Resp-clause-stands
returns-in-Resp-clause-stands c = subst
    (λ (s : Side). IfOk c.response_bytes.result (λ step. (streams : Both Stream) (units : Both (List HttpUnit)) → StandsFor c.args.http.now streams units
    → IsLent c.args.http.now s (of_side s streams) c.args.bytes.now → StandsFor c.response_bytes.new.self streams (add s step.«unit» units)))
    (sym c.in-Resp.is) c.response_bytes.ensures.stands

pub returns-in-Resp-clause-found : goal.returns-in-Resp-clause-found
returns-in-Resp-clause-found c = subst
    (λ (s : Side). IfOk c.response_bytes.result (λ step. (streams : Both Stream) (units : Both (List HttpUnit)) → StandsFor c.args.http.now streams units
    → IsLent c.args.http.now s (of_side s streams) c.args.bytes.now
    → MatchOption step.«unit» (IsAll c.args.http.now s (of_side s streams) c.args.bytes.now → next s streams units ≡ None) (λ one. next s streams units ≡ Some one)))
    (sym c.in-Resp.is) c.response_bytes.ensures.«unit»

pub returns-in-Resp-clause-memory : goal.returns-in-Resp-clause-memory
returns-in-Resp-clause-memory c = on_err c.response_bytes.result c.response_bytes.ensures.memory (keeps_same c.args.side c.args.http.now c.response_bytes.new.self)
