use Rattle.std.proofs.Common.{sym, ◌∙◌}
use Rattle.std.proofs.lemmas.Bool.{true≢false}
use Rattle.zk_conn.proofs.RemoveLemmas.{number_there}
use Rattle.zk_conn.proofs.conns.Conns.least.Goals as goal

pub returns-in_default-clause-none : goal.returns-in_default-clause-none
returns-in_default-clause-none c = λ table number slot found.
    true≢false (sym (c.contains.ensures.1 (number_there c.args.self.now c.in-Some.field-0-0.now c.in-Some.slot.now table c.in-Some.ensures.value)) ∙ c.if-contains.false)
