use Rattle.std.proofs.Common.{⊎_elim, arith}
use Rattle.std.proofs.lemmas.Bool.{cases_lt}
use Rattle.zk_reasm.proofs.PageLemmas.{byte_on-past}
use Rattle.zk_reasm.proofs.page.Page.cut.Goals as goal

pub returns-clause-above : goal.returns-clause-above
returns-clause-above c = λ at low. ⊎_elim (c.loop-at.invariant.passed at low) (λ past. byte_on-past c.loop-at.self at (omega (arith, past))) (cases_lt at c.loop-at.at)
