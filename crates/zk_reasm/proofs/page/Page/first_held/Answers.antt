use Rattle.std.proofs.Common.{⊎_elim, arith}
use Rattle.std.proofs.lemmas.Bool.{cases_lt}
use Rattle.zk_reasm.proofs.PageLemmas.{byte_on-past}
use Rattle.zk_reasm.proofs.page.Page.first_held.Goals as goal

pub returns : goal.returns
returns c = λ at low. ⊎_elim (c.loop-at.invariant at low) (λ past. byte_on-past c.args.self.now at (omega (arith, past))) (cases_lt at c.loop-at.at)
