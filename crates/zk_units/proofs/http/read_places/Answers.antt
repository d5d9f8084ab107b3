use Rattle.std.proofs.Common.{◌≡◌, List, None, Some, MatchOption, sym, subst}
use Rattle.std.specs.Prelude.{◌↔◌}
use Rattle.zk_base.specs.declared.network.Side.{Side}
use Rattle.zk_http.specs.Cases.{Held, case_of}
use Rattle.zk_http.specs.declared.units.«Unit».{«Unit» as HttpUnit}
use Rattle.zk_http.specs.Places.{Both, Stream, of_side}
use Rattle.zk_http.specs.Standing.{HasGap, StandsFor}
use Rattle.zk_http.specs.Units.{add, next}
use Rattle.zk_units.proofs.http.read_places.Goals as goal

pub returns-in-Orig-clause-stands : goal.returns-in-Orig-clause-stands
returns-in-Orig-clause-stands c = subst
    (λ (s : Side). (streams : Both Stream) (units : Both (List HttpUnit)) → StandsFor c.args.http.now streams units
    → HasGap c.args.http.now s (of_side s streams) c.args.unused c.args.places c.args.after → StandsFor c.request_gap.new.self streams (add s c.request_gap.result.«unit» units))
    (sym c.in-Orig.is) c.request_gap.ensures.stands

pub returns-in-Orig-clause-found : goal.returns-in-Orig-clause-found
returns-in-Orig-clause-found c = subst
    (λ (s : Side). (streams : Both Stream) (units : Both (List HttpUnit)) → StandsFor c.args.http.now streams units
    → HasGap c.args.http.now s (of_side s streams) c.args.unused c.args.places c.args.after
    → MatchOption c.request_gap.result.«unit» (((c.request_gap.result.used ≡ 0) ↔ (case_of s units ≡ Held)) × (c.request_gap.result.used ≡ 0 → next s streams units ≡ None))
    (λ one. next s streams units ≡ Some one))
    (sym c.in-Orig.is) c.request_gap.ensures.«unit»

pub returns-in-Resp-clause-stands : goal.returns-in-Resp-clause-stands
returns-in-Resp-clause-stands c = subst
    (λ (s : Side). (streams : Both Stream) (units : Both (List HttpUnit)) → StandsFor c.args.http.now streams units
    → HasGap c.args.http.now s (of_side s streams) c.args.unused c.args.places c.args.after → StandsFor c.response_gap.new.self streams (add s c.response_gap.result.«unit» units))
    (sym c.in-Resp.is) c.response_gap.ensures.stands

pub returns-in-Resp-clause-found : goal.returns-in-Resp-clause-found
returns-in-Resp-clause-found c = subst
    (λ (s : Side). (streams : Both Stream) (units : Both (List HttpUnit)) → StandsFor c.args.http.now streams units
    → HasGap c.args.http.now s (of_side s streams) c.args.unused c.args.places c.args.after
    → MatchOption c.response_gap.result.«unit» (((c.response_gap.result.used ≡ 0) ↔ (case_of s units ≡ Held)) × (c.response_gap.result.used ≡ 0 → next s streams units ≡ None))
    (λ one. next s streams units ≡ Some one))
    (sym c.in-Resp.is) c.response_gap.ensures.«unit»
