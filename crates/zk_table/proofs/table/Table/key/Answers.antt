use Rattle.std.proofs.Common.{Some, sym, ap, ◌∙◌}
use Rattle.std.specs.Option.{option_map}
use Rattle.zk_tree.specs.Table as plain
use Rattle.zk_tree.specs.Table.{Entry, entry_numbered}
use Rattle.zk_value.specs.Plain.{key_of}
use Rattle.zk_table.specs.declared.slot.Stored.{Stored}
use Rattle.zk_table.proofs.KeptLemmas.{numbered-entry, place-numbered}
use Rattle.zk_table.proofs.TableLemmas.{lent-stored}
use Rattle.zk_table.proofs.table.Table.key.Goals as goal

pub returns-in-Some : goal.returns-in-Some
returns-in-Some c =
    let entries = c.self.inside.entries in
    let place = c.in_ok-place.place in
    let order = c.args.order in
    let here = c.in_ok-place.ensures.found c.self.invariant in
    let stored = lent-stored entries place order here.stored c.in-Some.stored.now here.there c.in-Some.ensures in
    ap (λ key. Some (key_of key)) (c.key.ensures ∙ ap (λ (s : Stored). s.key) stored)
    ∙ sym (ap (λ (t : plain.Table). option_map (λ (entry : Entry). entry.key) (entry_numbered order t.entries)) (sym c.self.view_is)
    ∙ ap (option_map (λ (entry : Entry). entry.key)) (numbered-entry entries c.self.invariant order here.stored (place-numbered entries c.self.invariant place order here.stored here.there)))
