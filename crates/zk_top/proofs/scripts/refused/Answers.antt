use Rattle.std.proofs.Common.{sym, subst, ◌∙◌}
use Rattle.std.proofs.lemmas.Result.{IfOk-weaker}
use Rattle.zk_outcome.specs.declared.found.Found.TheVariants.{Refused}
use Rattle.zk_top.specs.Compiling.{IsCodeOf}
use Rattle.zk_top.specs.Script.{judged}
use Rattle.zk_top.proofs.CompileLaws.{refused_as}
use Rattle.zk_top.proofs.scripts.refused.Goals as goal

pub returns-in-Some : goal.returns-in-Some
returns-in-Some c =
    IfOk-weaker c.refused_at.result _ _ (λ ending is rules first.
    subst (λ e. IsCodeOf (Refused e) (judged c.args.scripts.now rules)) (sym is)
    (refused_as c.args.scripts.now c.args.fault c.in-Some.refusal rules (sym c.refusal_in.ensures ∙ c.in-Some.is) first)) c.refused_at.ensures
