use Rattle.std.proofs.Common.{subst}
use Rattle.std.proofs.lemmas.Result.{IfOk-weaker}
use Rattle.zk_outcome.specs.declared.found.Found.TheVariants.{Accepted}
use Rattle.zk_top.specs.Compiling.{IsCodeOf, program_by}
use Rattle.zk_top.specs.Generated.{IsOf}
use Rattle.zk_top.specs.Outcome.{generated, summing_up}
use Rattle.zk_top.specs.Script.{default_scripts}
use Rattle.zk_top.proofs.OverGenerated.{generated_is, reported_by, reported_refusal}
use Rattle.zk_top.proofs.generated.run_defaults.Goals as goal

pub returns-in_ok-capture-in-Accepted : goal.returns-in_ok-capture-in-Accepted
returns-in_ok-capture-in-Accepted c =
    let bytes = generated c.args.start c.args.count in
    let capture = c.in_ok-capture-in-Accepted.field-0 in
    let is = generated_is c.args.start c.args.count capture c.in_ok-capture-in-Accepted.ensures.exact in
    IfOk-weaker c.run_over.result _ _ (λ report reports.
    reported_by bytes (program_by default_scripts) c.in-Accepted.runnable report (subst (λ found. IsCodeOf found (program_by default_scripts)) c.in-Accepted.is c.in_ok-runnable.ensures)
    (λ program runs. subst (λ whole. IsOf report (summing_up whole (Accepted program))) is (reports program runs))) c.run_over.ensures

pub returns-in-Refused : goal.returns-in-Refused
returns-in-Refused c =
    reported_refusal (generated c.args.start c.args.count) (program_by default_scripts) c.in-Refused.ending c.ending_so.result
    (subst (λ found. IsCodeOf found (program_by default_scripts)) c.in-Refused.is c.in_ok-runnable.ensures) c.ending_so.ensures.ending c.ending_so.ensures.said
