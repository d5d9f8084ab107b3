use Rattle.std.proofs.Common.{sym, ◌∙◌}
use Rattle.zk_table.proofs.FindLemmas.{found-at}
use Rattle.zk_table.proofs.entries.Entries.is_at.Goals as goal

pub returns-in-Some : goal.returns-in-Some
returns-in-Some c = λ same. found-at c.args.self.now c.args.key.now c.args.place c.in-Some.stored.now c.in-Some.ensures (sym c.eq.ensures ∙ same)
