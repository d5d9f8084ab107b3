use Rattle.std.proofs.Common.{sym, ◌∙◌}
use Rattle.std.proofs.lemmas.Bool.{true≢false}
use Rattle.zk_conn.proofs.InstanceLaws.{told_live_number}
use Rattle.zk_traffic.proofs.table.Table.was_reset.Goals as goal

pub returns-else-is_live : goal.returns-else-is_live
returns-else-is_live c = λ told key first stands live begun.
    absurd (true≢false (sym (c.is_live.ensures.1 (told_live_number c.args.self.now.conns told c.args.conn stands (key, live))) ∙ c.if-is_live.false))
