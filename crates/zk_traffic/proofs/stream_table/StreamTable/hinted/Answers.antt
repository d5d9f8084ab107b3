use Rattle.std.proofs.Common.{◌≡◌, Some, ap, subst, sym, ◌∙◌}
use Rattle.zk_traffic.specs.StreamTable.{entry_at}
use Rattle.zk_traffic.proofs.stream_table.StreamTable.hinted.Goals as goal

pub returns-then-number-conn-clause-there : goal.returns-then-number-conn-clause-there
unfolding entry_at
returns-then-number-conn-clause-there c =
    let streams = c.in_ok-number.field-0-1.now in
    let same : c.in_ok-number.number.now ≡ c.args.conn.0 = c.if-number-conn.true in (
      streams,
      sym c.in_ok-number.ensures.entry ∙ ap (λ n. Some (n, streams)) same,
      subst (λ n. entry_at c.args.self.now n ≡ Some streams) same c.in_ok-number.ensures.value,
    )
