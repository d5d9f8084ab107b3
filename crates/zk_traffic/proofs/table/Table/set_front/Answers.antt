use Rattle.std.proofs.Common.{sym, ◌∙◌}
use Rattle.std.proofs.lemmas.Bool.{true≢false}
use Rattle.zk_conn.proofs.InstanceLaws.{told_live_number}
use Rattle.zk_traffic.proofs.table.Table.set_front.Goals as goal

pub returns-else-is_live-clause-told : goal.returns-else-is_live-clause-told
returns-else-is_live-clause-told c = λ told key stands live.
    absurd (true≢false (sym (c.is_live.ensures.1 (told_live_number c.args.self.now.conns told c.args.conn stands (key, live))) ∙ c.if-is_live.false))
