use Rattle.std.proofs.Common.{◌≡◌, Some, None, cond, refl, ap, ◌∙◌, arith, length}
use Rattle.std.proofs.Math.ListN.{set}
use Rattle.std.proofs.lemmas.List.{with_items_is}
use Rattle.indexmap.specs.IndexMap as keyed
use Rattle.zk_value.specs.contracts.key.KeyPartialEq.TheImpl as key_eq
use Rattle.zk_table.specs.declared.slot.Slot.{Slot}
use Rattle.zk_table.specs.declared.slot.Stored.{Stored}
use Rattle.zk_table.specs.Kept.{order_at}
use Rattle.zk_table.specs.Slots.{hole, occupied}
use Rattle.zk_table.proofs.ChangeLemmas.{emptied_slot, lent_slot, tree_after}
use Rattle.zk_table.proofs.OperationLemmas.{empties-from}
use Rattle.zk_table.proofs.entries.Entries.empty.Goals as goal

one_stored : (a b : Stored) → Some a ≡ Some b → a ≡ b
one_stored a b e = cc

pub returns : goal.returns
unfolding order_at
returns c = λ order was there some.
    let old = c.args.self.now in
    let lent = lent_slot old.slots.items c.args.place order (occupied order was) c.index_mut.result.now there c.index_mut.ensures.value in
    let slot : c.take.new.self ≡ hole order = c.in-Some.ensures.hole ∙ ap emptied_slot lent in
    let same : c.in-Some.stored ≡ was = one_stored c.in-Some.stored was (c.in-Some.ensures.entry ∙ ap (λ (s : Slot). s.entry) lent) in
    let long : length c.reorder.new.firsts ≡ old.firsts.len = omega arith in
    empties-from old _ c.args.place order was there (ap (set old.slots.items c.args.place) slot)
    (λ key. c.swap_remove.ensures.updates.0 key ∙ ap (λ (s : Stored). cond ((key_eq.ghosts).eq s.key key) None (keyed.get ((key_eq.ghosts).eq) old.orders key)) same)
    refl refl c.saturating_sub-self.ensures some (ap length (with_items_is old.firsts c.reorder.new.firsts long) ∙ long ∙ old.firsts.ok.0)
    (λ all. tree_after (set old.slots.items c.args.place c.take.new.self) (set old.slots.items c.args.place c.take.new.self) old.firsts c.deref_mut.result.now c.reorder.new.firsts c.args.place
    refl c.deref_mut.ensures.value long c.reorder.ensures all)
