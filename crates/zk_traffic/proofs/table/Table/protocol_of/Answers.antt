use Rattle.std.proofs.Common.{sym, ◌∙◌}
use Rattle.std.proofs.lemmas.Bool.{true≢false}
use Rattle.zk_conn.proofs.InstanceLaws.{told_live_number}
use Rattle.zk_traffic.proofs.table.Table.protocol_of.Goals as goal

pub returns-then-not-is_live : goal.returns-then-not-is_live
returns-then-not-is_live c = λ told key first stands live begun.
    absurd (true≢false (sym (c.is_live.ensures.1 (told_live_number c.args.self.now.conns told c.args.conn stands (key, live))) ∙ c.if-not-is_live.true))
