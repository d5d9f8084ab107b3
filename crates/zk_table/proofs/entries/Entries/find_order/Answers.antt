use Rattle.std.proofs.Common.{◌≡◌, ℕ, None}
use Rattle.zk_table.specs.Slots.{Ascends, stored_numbered}
use Rattle.zk_table.proofs.FindLemmas.{place-numbered-none}
use Rattle.zk_table.proofs.KeptLemmas.{numbered-none}
use Rattle.zk_table.proofs.entries.Entries.find_order.Goals as goal

pub returns-in-None-stored-clause-none : goal.returns-in-None-stored-clause-none
returns-in-None-stored-clause-none c =
    place-numbered-none c.args.self.now c.args.order c.in-Some.place (rw (← c.deref.ensures.value) c.in-Some.ensures.found) c.in-None-stored.ensures

pub returns-in-None-clause-none : goal.returns-in-None-clause-none
returns-in-None-clause-none c = λ kept.
    numbered-none c.args.self.now kept c.args.order
    (let none : (from below : ℕ) → Ascends from c.args.self.now.slots.items below → stored_numbered c.args.order c.args.self.now.slots.items ≡ None =
    rw (← c.deref.ensures.value) c.in-None.ensures.none in
    none 0 c.args.self.now.insertions kept.ascends)
