use Rattle.std.proofs.Common.{sym}
use Rattle.zk_table.specs.Kept.{order_at}
use Rattle.zk_table.proofs.FindLemmas.{find-found, find-none}
use Rattle.zk_table.proofs.KeptLemmas.{absent}
use Rattle.zk_table.proofs.entries.Entries.search.Goals as goal

pub returns-in-Some-clause-found : goal.returns-in-Some-clause-found
unfolding order_at
returns-in-Some-clause-found c =
    find-found c.args.self.now c.args.key.now c.in-Some.order.now c.place_of.result (sym c.in-Some.ensures.value) (rw (← c.deref.ensures.value) c.place_of.ensures.found)

pub returns-in-Some-clause-none : goal.returns-in-Some-clause-none
unfolding order_at
returns-in-Some-clause-none c =
    find-none c.args.self.now c.args.key.now c.in-Some.order.now c.place_of.result (sym c.in-Some.ensures.value) (rw (← c.deref.ensures.value) c.place_of.ensures.none)

pub returns-in-None-clause-none : goal.returns-in-None-clause-none
unfolding order_at
returns-in-None-clause-none c = λ kept. absent c.args.self.now kept c.args.key.now (sym c.in-None.ensures.value)
