use Rattle.std.proofs.Common.{Some, sym, ap, ◌∙◌}
use Rattle.std.specs.Option.{option_map}
use Rattle.zk_tree.specs.Table as plain
use Rattle.zk_tree.specs.Table.{Entry, entry_at}
use Rattle.zk_value.specs.Plain.{key_of, value_of}
use Rattle.zk_table.specs.declared.slot.Stored.{Stored}
use Rattle.zk_table.proofs.TableLemmas.{found-entry, lent-stored}
use Rattle.zk_table.proofs.table.Table.get.Goals as goal

pub returns-in-Some : goal.returns-in-Some
returns-in-Some c =
    let key = c.args.key.now in
    let entries = c.self.inside.entries in
    let found = c.in_ok-place.ensures.found c.self.invariant in
    let stored = lent-stored entries c.in_ok-place.place found.order found.stored c.in-Some.stored.now found.there c.in-Some.ensures in
    ap (λ value. Some (value_of value)) (c.value.ensures ∙ ap (λ (s : Stored). s.value) stored)
    ∙ sym (ap (λ (t : plain.Table). option_map (λ (entry : Entry). entry.value) (entry_at (key_of key) t.entries)) (sym c.self.view_is)
    ∙ ap (option_map (λ (entry : Entry). entry.value)) (found-entry entries key c.in_ok-place.place c.self.invariant found))
