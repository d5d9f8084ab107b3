use Rattle.std.proofs.Common.{sym, ap, ◌∙◌}
use Rattle.std.proofs.lemmas.Result.{IfOk-weaker}
use Rattle.zk_load.specs.Loading.{scripts_in}
use Rattle.zk_top.specs.Script.{default_scripts, scripts_before}
use Rattle.zk_top.proofs.scripts.scripts_before.Goals as goal

pub returns-else-bare : goal.returns-else-bare
unfolding default_scripts
returns-else-bare c = IfOk-weaker c.read_texts.result _ _ (λ found is. is ∙ ap scripts_in c.default_scripts.ensures ∙ sym (ap scripts_before c.if-bare.false)) c.read_texts.ensures
