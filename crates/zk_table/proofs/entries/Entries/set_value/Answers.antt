use Rattle.std.proofs.Common.{◌≡◌, refl, ap, ◌∙◌}
use Rattle.zk_table.specs.Slots.{occupied, with_value}
use Rattle.zk_table.proofs.ChangeLemmas.{changed, lent_slot, rewrites_same}
use Rattle.zk_table.proofs.entries.Entries.set_value.Goals as goal

pub returns-clause-rewrites : goal.returns-clause-rewrites
returns-clause-rewrites c = λ order was there.
    let old = c.args.self.now in
    let lent = lent_slot old.slots.items c.args.place order (occupied order was) c.index_mut.result.now there c.index_mut.ensures.value in
    let slot : c.set_value.new.self ≡ occupied order (with_value c.args.value was) =
    c.set_value.ensures ∙ ap (changed (with_value c.args.value)) lent in
    rewrites_same old c.args.place order was (with_value c.args.value was) c.set_value.new.self there slot refl
