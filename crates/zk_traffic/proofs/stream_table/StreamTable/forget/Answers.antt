use Rattle.std.proofs.Common.{sym, ◌∙◌, arith}
use Rattle.zk_traffic.specs.Kept.{held_in}
use Rattle.zk_traffic.specs.StreamTable.{entry_at}
use Rattle.zk_traffic.proofs.StreamTableLemmas.{counted_sum, held_is, held_none, kept_as, none_has, some_has}
use Rattle.zk_traffic.proofs.stream_table.StreamTable.forget.Goals as goal

pub returns-in-Some-clause-kept : goal.returns-in-Some-clause-kept
unfolding entry_at
returns-in-Some-clause-kept c = λ talk has within.
    let limit = c.args.self.now.limit in
    let are = some_has limit _ c.in-Some.streams talk (sym c.swap_remove.ensures.value ∙ c.in-Some.is) has in
    let sum = counted_sum c.kept.result (held_in limit talk) c.args.self.now.kept (kept_as c.kept.result _ (held_in limit talk) (held_is limit talk c.in-Some.streams.readers are.1) (c.kept.ensures limit talk.orig talk.resp are.0)) within (omega arith) in
    omega (arith, sum, c.unwrap_or.ensures, c.saturating_sub-self.ensures, within)

pub returns-in_default-clause-kept : goal.returns-in_default-clause-kept
unfolding entry_at
returns-in_default-clause-kept c = λ talk has within.
    let limit = c.args.self.now.limit in
    let none = none_has limit _ talk (sym c.swap_remove.ensures.value ∙ c.in_default.is) has in
    omega (arith, held_none limit talk none.0 none.1)
