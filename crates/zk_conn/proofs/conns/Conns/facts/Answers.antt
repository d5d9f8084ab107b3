use Rattle.std.proofs.Common.{sym, ◌∙◌}
use Rattle.zk_conn.proofs.StandingLemmas.{facts_live}
use Rattle.zk_conn.proofs.conns.Conns.facts.Goals as goal

pub returns : goal.returns
returns c = λ told key stands live.
    facts_live c.args.self.now told key c.args.conn c.in-Some.slot c.index.result.now c.facts.result
    (sym c.slot_numbered.ensures.slot ∙ c.in-Some.is) c.index.ensures c.facts.ensures stands live
