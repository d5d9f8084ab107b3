use Rattle.std.proofs.Common.{◌∙◌}
use Rattle.zk_table.proofs.TurnLemmas.{top-first_due}
use Rattle.zk_table.proofs.entries.Entries.due.Goals as goal

pub returns : goal.returns
returns c = λ kept. c.below.ensures ∙ rw c.deref.ensures.value (top-first_due c.args.self.now.slots.items c.args.self.now.firsts.items kept.tree)
