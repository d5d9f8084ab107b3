use Rattle.std.proofs.Common.{◌≡◌, ◌-◌, ◌≤◌, ◌++◌, length, sym, ap, subst, ◌∙◌}
use Rattle.std.specs.Prelude.{IfNone, MatchOption, None, Some}
use Rattle.zk_base.specs.declared.network.Side.TheVariants.{Resp}
use Rattle.zk_http.specs.Cases.{case_of}
use Rattle.zk_http.specs.HalfTurns.{IsBetween, Leaves, bytes_in_first}
use Rattle.zk_http.specs.Standing.{HasRead, IsAll, StandsFor}
use Rattle.zk_http.specs.Units.{add, next}
use Rattle.zk_http.specs.declared.units.Step.{Step}
use Rattle.zk_http.proofs.AnswerLaws.{response_stands}
use Rattle.zk_http.proofs.StepLaws.{lent_to, response_left, response_used, side_between, side_bytes, unit_told}
use Rattle.zk_http.proofs.http.Http.response_bytes_to.Goals as goal

pub returns-clause-unit : goal.returns-clause-unit
returns-clause-unit g c streams units stands lent =
    let http = c.args.self.now in
    let half = c.in_ok-half.half in
    let bytes = c.args.bytes.now in
    let between = subst (IsBetween http.responses (case_of Resp units)) (sym c.between_responses-between.ensures) (side_between Resp http streams units stands) in
    subst (λ (step : Step). MatchOption step.unit (IsAll http Resp streams.resp bytes → next Resp streams units ≡ None) (λ unit. next Resp streams units ≡ Some unit))
    (sym c.take_response.ensures.step)
    (unit_told Resp http half streams units bytes c.in_ok-half.step.unit
    (c.in_ok-half.ensures.moves streams.resp (case_of Resp units) units.resp stands.resp (lent_to http Resp streams.resp bytes lent) between))

pub returns-clause-stands : goal.returns-clause-stands
returns-clause-stands g c streams units stands lent =
    let http = c.args.self.now in
    let half = c.in_ok-half.half in
    let bytes = c.args.bytes.now in
    let between = subst (IsBetween http.responses (case_of Resp units)) (sym c.between_responses-between.ensures) (side_between Resp http streams units stands) in
    subst (λ (step : Step). StandsFor c.take_response.new.self streams (add Resp step.unit units)) (sym c.take_response.ensures.step)
    (response_stands http c.take_response.new.self half streams units bytes c.in_ok-half.step.unit stands
    (c.in_ok-half.ensures.moves streams.resp (case_of Resp units) units.resp stands.resp (lent_to http Resp streams.resp bytes lent) between)
    c.take_response.ensures.takes c.take_response.ensures.rest)

pub returns-clause-unused : goal.returns-clause-unused
returns-clause-unused g c =
    let http = c.args.self.now in
    let half = c.in_ok-half.half in
    let bytes = c.args.bytes.now in
    let left = length bytes - c.in_ok-half.step.used in
    subst (λ (step : Step). IfNone step.unit ((length bytes - step.used ≤ 65536) × HasRead Resp c.take_response.new.self (length bytes - step.used)))
    (sym c.take_response.ensures.step)
    (response_left http c.take_response.new.self half c.in_ok-half.step.unit left c.take_response.ensures.takes
    (subst (λ between. IfNone c.in_ok-half.step.unit (Leaves half between left)) c.between_responses-between.ensures c.in_ok-half.ensures.leaves))

pub returns-clause-body : goal.returns-clause-body
returns-clause-body g c streams units stands lent before held =
    let http = c.args.self.now in
    let new = c.take_response.new.self in
    let half = c.in_ok-half.half in
    let bytes = c.args.bytes.now in
    let between = subst (IsBetween http.responses (case_of Resp units)) (sym c.between_responses-between.ensures) (side_between Resp http streams units stands) in
    subst (λ all. g.B.Body.stands_for c.bytes.new.body (before ++ all))
    (sym (side_bytes Resp new streams units
    ∙ ap (λ used. bytes_in_first used streams.resp (case_of Resp units) units.resp)
    (response_used http new half c.in_ok-half.step.unit c.take_response.ensures.takes)))
    (c.in_ok-half.ensures.given streams.resp (case_of Resp units) units.resp stands.resp (lent_to http Resp streams.resp bytes lent) between
    before (subst (λ all. g.B.Body.stands_for c.args.body.now (before ++ all)) (side_bytes Resp http streams units) held))
