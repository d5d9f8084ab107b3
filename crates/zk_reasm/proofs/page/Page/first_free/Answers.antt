use Rattle.std.proofs.Common.{arith}
use Rattle.zk_reasm.proofs.PageLemmas.{byte_on-past}
use Rattle.zk_reasm.proofs.page.Page.first_free.Goals as goal

pub returns-after-loop-at-clause-free : goal.returns-after-loop-at-clause-free
returns-after-loop-at-clause-free c = byte_on-past c.args.self.now c.loop-at.at (omega arith)
