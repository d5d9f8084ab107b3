use Rattle.std.proofs.Common.{◌≡◌, refl, ap, ◌∙◌, arith}
use Rattle.std.proofs.Math.ListN.{set}
use Rattle.zk_table.specs.Slots.{occupied, with_moment}
use Rattle.zk_table.proofs.ChangeLemmas.{changed, lent_slot, rewrites_reordered, is_some-due_from}
use Rattle.zk_table.proofs.entries.Entries.renew.Goals as goal

pub returns : goal.returns
returns c = λ order was there.
    let old = c.args.self.now in
    let lent = lent_slot old.slots.items c.args.place order (occupied order was) c.index_mut.result.now there c.index_mut.ensures.value in
    let slot : c.renew.new.self ≡ occupied order (with_moment c.args.now c.due_from-due.result was) =
    c.renew.ensures ∙ ap (changed (with_moment c.args.now c.due_from-due.result)) lent in
    rewrites_reordered old c.args.place order was _ c.renew.new.self (set old.slots.items c.args.place c.renew.new.self) c.deref_mut.result.now c.reorder.new.firsts
    there (slot ∙ ap (λ due. occupied order (with_moment c.args.now due was)) c.due_from-due.ensures) refl c.deref_mut.ensures.value (omega arith) c.reorder.ensures
    (λ kept. is_some-due_from old.expiry c.args.now)
