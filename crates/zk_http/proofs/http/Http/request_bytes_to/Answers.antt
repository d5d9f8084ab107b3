use Rattle.std.proofs.Common.{◌≡◌, ◌-◌, ◌≤◌, ◌++◌, length, sym, ap, subst, ◌∙◌}
use Rattle.std.specs.Prelude.{IfNone, MatchOption, None, Some}
use Rattle.std.proofs.lemmas.Result.{IfOk-weaker}
use Rattle.zk_base.specs.declared.network.Side.TheVariants.{Orig}
use Rattle.zk_http.specs.Cases.{case_of}
use Rattle.zk_http.specs.HalfTurns.{bytes_in_first}
use Rattle.zk_http.specs.Standing.{HasRead, IsAll, StandsFor}
use Rattle.zk_http.specs.Units.{add, next}
use Rattle.zk_http.specs.declared.units.Step.{Step}
use Rattle.zk_http.proofs.PairLaws.{request_stands}
use Rattle.zk_http.proofs.StepLaws.{if_both, if_three, lent_to, on_err, request_left, request_used, same_all, side_between, side_bytes, unit_told}
use Rattle.zk_http.proofs.http.Http.request_bytes_to.Goals as goal

pub returns-clause-unit : goal.returns-clause-unit
returns-clause-unit g c =
    let http = c.args.self.now in
    let half = c.in_ok-half.half in
    let bytes = c.args.bytes.now in
    IfOk-weaker c.take_request.result _ _ (λ given same streams units stands lent.
    subst (λ (step : Step). MatchOption step.unit (IsAll http Orig streams.orig bytes → next Orig streams units ≡ None) (λ unit. next Orig streams units ≡ Some unit)) (sym same)
    (unit_told Orig http half streams units bytes c.in_ok-half.step.unit
    (c.in_ok-half.ensures.moves streams.orig (case_of Orig units) units.orig stands.orig (lent_to http Orig streams.orig bytes lent) (side_between Orig http streams units stands))))
    c.take_request.ensures.step

pub returns-clause-stands : goal.returns-clause-stands
returns-clause-stands g c =
    let http = c.args.self.now in
    let half = c.in_ok-half.half in
    let bytes = c.args.bytes.now in
    if_three c.take_request.result _ _ _ _ (λ given same takes rest streams units stands lent.
    subst (λ (step : Step). StandsFor c.take_request.new.self streams (add Orig step.unit units)) (sym same)
    (request_stands http c.take_request.new.self half streams units bytes c.in_ok-half.step.unit stands
    (c.in_ok-half.ensures.moves streams.orig (case_of Orig units) units.orig stands.orig (lent_to http Orig streams.orig bytes lent) (side_between Orig http streams units stands))
    takes rest))
    c.take_request.ensures.step c.take_request.ensures.takes c.take_request.ensures.rest

pub returns-clause-unused : goal.returns-clause-unused
returns-clause-unused g c =
    let http = c.args.self.now in
    let half = c.in_ok-half.half in
    let bytes = c.args.bytes.now in
    if_both c.take_request.result _ _ _ (λ given same takes.
    subst (λ (step : Step). IfNone step.unit ((length bytes - step.used ≤ 65536) × HasRead Orig c.take_request.new.self (length bytes - step.used))) (sym same)
    (request_left http c.take_request.new.self half c.in_ok-half.step.unit (length bytes - c.in_ok-half.step.used) takes c.in_ok-half.ensures.leaves))
    c.take_request.ensures.step c.take_request.ensures.takes

pub returns-clause-memory : goal.returns-clause-memory
returns-clause-memory g c =
    on_err c.take_request.result _ _ (λ kept. same_all c.args.self.now c.take_request.new.self kept.0 kept.1 kept.2) c.take_request.ensures.memory

pub returns-clause-body : goal.returns-clause-body
returns-clause-body g c =
    let http = c.args.self.now in
    let new = c.take_request.new.self in
    let half = c.in_ok-half.half in
    let bytes = c.args.bytes.now in
    IfOk-weaker c.take_request.result _ _ (λ given takes streams units stands lent before held.
    subst (λ all. g.B.Body.stands_for c.bytes.new.body (before ++ all))
    (sym (side_bytes Orig new streams units
    ∙ ap (λ used. bytes_in_first used streams.orig (case_of Orig units) units.orig) (request_used http new half c.in_ok-half.step.unit takes)))
    (c.in_ok-half.ensures.given streams.orig (case_of Orig units) units.orig stands.orig (lent_to http Orig streams.orig bytes lent) (side_between Orig http streams units stands)
    before (subst (λ all. g.B.Body.stands_for c.args.body.now (before ++ all)) (side_bytes Orig http streams units) held)))
    c.take_request.ensures.takes
