use Rattle.zk_traffic.proofs.RemoveLemmas.{removed_at_end}
use Rattle.zk_traffic.proofs.table.Table.end.Goals as goal

pub returns-clause-removed : goal.returns-clause-removed
returns-clause-removed c = λ limit segments gone told holds.
    removed_at_end c.args.self.now (record { alloc = c.args.self.now.alloc; conns = c.end.new.self; streams = c.forget.new.self }) c.args.last c.in_ok-removed.removed limit segments gone told holds
    (c.in_ok-removed.ensures.removed told holds.stands) (λ key live. c.in_ok-removed.ensures.taken told key holds.stands live)
    (record { limit_is = c.forget.ensures.limit; entry = c.forget.ensures.entry; others = c.forget.ensures.others; kept = c.forget.ensures.kept })
