use Rattle.std.proofs.Common.{sym, ◌∙◌}
use Rattle.std.proofs.lemmas.Bool.{true≢false}
use Rattle.zk_conn.proofs.InstanceLaws.{told_live_number}
use Rattle.zk_traffic.proofs.table.Table.tell_end.Goals as goal

pub returns-then-not-is_live-clause-told : goal.returns-then-not-is_live-clause-told
returns-then-not-is_live-clause-told c = λ told key stands live.
    absurd (true≢false (sym (c.is_live.ensures.1 (told_live_number c.args.self.now.conns told c.args.conn stands (key, live))) ∙ c.if-not-is_live.true))

pub returns-then-not-is_live-clause-ended : goal.returns-then-not-is_live-clause-ended
returns-then-not-is_live-clause-ended c = λ told key first stands live begun.
    absurd (true≢false (sym (c.is_live.ensures.1 (told_live_number c.args.self.now.conns told c.args.conn stands (key, live))) ∙ c.if-not-is_live.true))
