use Rattle.std.proofs.Common.{refl, sym, subst, ◌∙◌}
use Rattle.zk_base.specs.declared.network.Side.TheVariants.{Resp}
use Rattle.zk_http.specs.Cases.{case_of}
use Rattle.zk_http.specs.HalfTurns.{IsBetween}
use Rattle.zk_http.proofs.AnswerLaws.{response_gap_stands}
use Rattle.zk_http.proofs.StepLaws.{gap_in, gap_told, side_between, side_bytes}
use Rattle.zk_http.proofs.http.Http.response_gap.Goals as goal

pub returns-clause-unit : goal.returns-clause-unit
returns-clause-unit c streams units stands has =
    let http = c.args.self.now in
    let between = subst (IsBetween http.responses (case_of Resp units)) (sym c.between_responses-between.ensures) (side_between Resp http streams units stands) in
    gap_told Resp c.gap-step.result.0 streams units c.gap-step.result.1.used c.gap-step.result.1.unit
    (c.gap-step.ensures.moves Resp streams.resp (case_of Resp units) units.resp stands.resp (gap_in http Resp streams.resp c.args.unused c.args.places c.args.after has) between)

pub returns-clause-stands : goal.returns-clause-stands
returns-clause-stands c streams units stands has =
    let http = c.args.self.now in
    let between = subst (IsBetween http.responses (case_of Resp units)) (sym c.between_responses-between.ensures) (side_between Resp http streams units stands) in
    response_gap_stands http _ c.gap-step.result.0 streams units c.gap-step.result.1.used c.gap-step.result.1.unit stands
    (c.gap-step.ensures.moves Resp streams.resp (case_of Resp units) units.resp stands.resp (gap_in http Resp streams.resp c.args.unused c.args.places c.args.after has) between)
    c.gap-step.ensures.kind refl refl (record { asked = refl; between = refl })

pub returns-clause-body : goal.returns-clause-body
returns-clause-body c streams units stands has =
    let http = c.args.self.now in
    let between = subst (IsBetween http.responses (case_of Resp units)) (sym c.between_responses-between.ensures) (side_between Resp http streams units stands) in
    side_bytes Resp _ streams units
    ∙ c.gap-step.ensures.none Resp streams.resp (case_of Resp units) units.resp stands.resp (gap_in http Resp streams.resp c.args.unused c.args.places c.args.after has) between
    ∙ sym (side_bytes Resp http streams units)
