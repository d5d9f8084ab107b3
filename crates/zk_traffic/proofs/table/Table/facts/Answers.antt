use Rattle.std.proofs.Common.{sym, ◌∙◌}
use Rattle.std.proofs.lemmas.Bool.{true≢false}
use Rattle.zk_conn.proofs.InstanceLaws.{told_live_number}
use Rattle.zk_traffic.proofs.HoldsLemmas.{facts_known, is_live}
use Rattle.zk_traffic.proofs.table.Table.facts.Goals as goal

pub returns-then-is_live : goal.returns-then-is_live
returns-then-is_live c = λ limit segments gone told key talk holds live.
    c.facts.ensures told key holds.stands (is_live c.args.self.now limit segments gone told key c.args.conn.0 talk holds live)
    ∙ facts_known c.args.self.now limit segments gone told key c.args.conn.0 talk holds live

pub returns-else-is_live : goal.returns-else-is_live
returns-else-is_live c = λ limit segments gone told key talk holds live.
    absurd (true≢false (sym (c.is_live.ensures.1 (told_live_number c.args.self.now.conns told c.args.conn holds.stands (key, is_live c.args.self.now limit segments gone told key c.args.conn.0 talk holds live)))
    ∙ c.if-is_live.false))
