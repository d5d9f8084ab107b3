use Rattle.std.proofs.Common.{sym, ◌∙◌}
use Rattle.zk_conn.specs.Table.{slot_of}
use Rattle.zk_conn.proofs.HintLemmas.{hint_found}
use Rattle.zk_conn.proofs.conns.Conns.find.Goals as goal

pub returns-in-Some-clause-some : goal.returns-in-Some-clause-some
unfolding slot_of
returns-in-Some-clause-some c = λ table. hint_found c.args.self.now c.args.key.now c.in-Some.slot table c.in-Some.ensures

pub returns-clause-some : goal.returns-clause-some
unfolding slot_of
returns-clause-some c = λ table. sym c.slot_of.ensures.slot ∙ c.in_ok-slot.was
