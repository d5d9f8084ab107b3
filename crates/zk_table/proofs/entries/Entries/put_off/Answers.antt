use Rattle.std.proofs.Common.{◌≡◌, refl, ap, ◌∙◌, arith}
use Rattle.std.proofs.Math.ListN.{set}
use Rattle.zk_table.specs.Slots.{occupied, later_due}
use Rattle.zk_table.proofs.ChangeLemmas.{changed, lent_slot, rewrites_reordered, still_due}
use Rattle.zk_table.proofs.KeptLemmas.{place-numbered}
use Rattle.zk_table.proofs.entries.Entries.put_off.Goals as goal

pub returns : goal.returns
returns c = λ order was there.
    let old = c.args.self.now in
    let lent = lent_slot old.slots.items c.args.place order (occupied order was) c.index_mut.result.now there c.index_mut.ensures.value in
    let slot : c.put_off.new.self ≡ occupied order (later_due c.args.wait was) =
    c.put_off.ensures ∙ ap (changed (later_due c.args.wait)) lent in
    rewrites_reordered old c.args.place order was _ c.put_off.new.self (set old.slots.items c.args.place c.put_off.new.self) c.deref_mut.result.now c.reorder.new.firsts
    there slot refl c.deref_mut.ensures.value (omega arith) c.reorder.ensures
    (λ kept. still_due was.due _ ∙ kept.dues order was (place-numbered old kept c.args.place order was there))
