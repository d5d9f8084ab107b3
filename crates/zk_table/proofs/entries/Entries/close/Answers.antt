use Rattle.std.proofs.Common.{◌≡◌, is_some, min, refl, ap, ◌∙◌, arith, length, rules}
use Rattle.std.proofs.lemmas.Fn.{filter_same}
use Rattle.std.proofs.lemmas.List.{with_items_is}
use Rattle.zk_table.specs.declared.slot.Slot.{Slot}
use Rattle.zk_table.specs.Slots.{without_holes}
use Rattle.zk_table.proofs.ChangeLemmas.{tree_rebuilt}
use Rattle.zk_table.proofs.OperationLemmas.{closed}
use Rattle.zk_table.proofs.entries.Entries.close.Goals as goal

pub returns : goal.returns
unfolding without_holes
returns c = record {
  same = λ kept.
      let old = c.args.self.now in
      let slots : c.retain.new.self.items ≡ without_holes old.slots.items =
      filter_same _ (λ (slot : Slot). is_some slot.entry) _ (λ x b f called. search rules) old.slots.items c.retain.new.self.items c.retain.ensures.filtered in
      let long : length c.rebuild.new.firsts ≡ c.truncate.new.self.len = omega arith in
      let cut : length c.rebuild.new.firsts ≡ min (length c.retain.new.self.items) (length old.firsts.items) = omega arith in
      closed old _ kept slots refl refl refl refl (ap length (with_items_is c.truncate.new.self c.rebuild.new.firsts long) ∙ cut)
      (tree_rebuilt c.retain.new.self.items c.retain.new.self.items c.truncate.new.self c.deref_mut.result.now c.rebuild.new.firsts
      refl c.deref_mut.ensures.value long c.rebuild.ensures.tree);
}
