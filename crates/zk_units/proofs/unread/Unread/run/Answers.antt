use Rattle.std.proofs.Common.{sym, ◌∙◌, arith}
use Rattle.std.proofs.lemmas.Grind.{common_steps}
use Rattle.zk_units.proofs.UnreadLemmas.{run-first, run-uncut}
use Rattle.zk_units.proofs.unread.Unread.run.Goals as goal

pub returns-then-self-eq0-clause-bytes : goal.returns-then-self-eq0-clause-bytes
returns-then-self-eq0-clause-bytes c = c.as_slice-bytes.ensures ∙ sym (run-uncut c.args.self.now c.if-self-eq0.true)

pub returns-else-self-eq0-clause-bytes : goal.returns-else-self-eq0-clause-bytes
returns-else-self-eq0-clause-bytes c =
    let first = run-first c.args.self.now (omega arith) in
    let bytes = c.as_slice-bytes.ensures in
    grind (arith, common_steps)
