use Rattle.std.proofs.Common.{refl, sym, ◌∙◌}
use Rattle.zk_base.specs.declared.network.Side.TheVariants.{Orig}
use Rattle.zk_http.specs.Cases.{case_of}
use Rattle.zk_http.proofs.AnswerLaws.{request_gap_stands}
use Rattle.zk_http.proofs.StepLaws.{gap_in, gap_told, side_between, side_bytes}
use Rattle.zk_http.proofs.http.Http.request_gap.Goals as goal

pub returns-clause-unit : goal.returns-clause-unit
returns-clause-unit c streams units stands has =
    let http = c.args.self.now in
    gap_told Orig c.gap-step.result.0 streams units c.gap-step.result.1.used c.gap-step.result.1.unit
    (c.gap-step.ensures.moves Orig streams.orig (case_of Orig units) units.orig stands.orig (gap_in http Orig streams.orig c.args.unused c.args.places c.args.after has)
    (side_between Orig http streams units stands))

pub returns-clause-stands : goal.returns-clause-stands
returns-clause-stands c streams units stands has =
    let http = c.args.self.now in
    request_gap_stands http _ c.gap-step.result.0 streams units c.gap-step.result.1.used c.gap-step.result.1.unit stands
    (c.gap-step.ensures.moves Orig streams.orig (case_of Orig units) units.orig stands.orig (gap_in http Orig streams.orig c.args.unused c.args.places c.args.after has)
    (side_between Orig http streams units stands))
    c.gap-step.ensures.kind refl refl (record { asked = refl; between = refl })

pub returns-clause-body : goal.returns-clause-body
returns-clause-body c streams units stands has =
    let http = c.args.self.now in
    side_bytes Orig _ streams units
    ∙ c.gap-step.ensures.none Orig streams.orig (case_of Orig units) units.orig stands.orig (gap_in http Orig streams.orig c.args.unused c.args.places c.args.after has)
    (side_between Orig http streams units stands)
    ∙ sym (side_bytes Orig http streams units)
