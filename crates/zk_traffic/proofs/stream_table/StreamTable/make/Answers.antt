use Rattle.std.proofs.Common.{sym, subst, ◌∙◌}
use Rattle.zk_traffic.specs.StreamTable.{HasStreams, entry_at}
use Rattle.zk_traffic.proofs.StreamTableLemmas.{has_new, none_has, not_some}
use Rattle.zk_traffic.proofs.stream_table.StreamTable.make.Goals as goal

pub returns-in_ok-insert-clause-entry : goal.returns-in_ok-insert-clause-entry
unfolding entry_at
returns-in_ok-insert-clause-entry c = λ limit talk is has.
    let none = none_has limit _ talk (not_some _ (sym c.contains_key.ensures ∙ c.if-not-contains_key.true)) has in
    subst (λ o. HasStreams limit o talk) (sym c.in_ok-insert.ensures.updates.1)
    (has_new limit talk c.in_ok-streams.streams c.args.protocol is none (c.in_ok-streams.ensures.streams limit) c.in_ok-streams.ensures.readers c.in_ok-streams.ensures.held)
