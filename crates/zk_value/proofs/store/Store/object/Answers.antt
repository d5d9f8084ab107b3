use Rattle.std.proofs.Common.{◌≡◌, ◌<◌, List, Some, length, get_or, slice_get, refl, ap, subst, ◌∙◌}
use Rattle.std.proofs.lemmas.Option.{slice_get_read}
use Rattle.zk_value.specs.declared.store.Slot.{Slot}
use Rattle.zk_value.specs.Objects.{table_place}
use Rattle.zk_value.proofs.StoreLemmas.{place_of-slot}
use Rattle.zk_value.proofs.store.Store.object.Goals as goal

pub returns-clause-place : goal.returns-clause-place
returns-clause-place c =
    let found = c.in_ok-slot.ensures in
    let there : slice_get c.self.inside.slots.items c.args.number.0 ≡ Some c.in_ok-slot.slot.now =
    slice_get_read c.self.inside.slots.items (length c.self.inside.slots.items) c.args.number.0 c.in_ok-slot.slot.now refl
    (subst (λ (l : List Slot). c.args.number.0 < length l) c.deref.ensures.value found.lookup.3.0)
    (subst (λ (l : List Slot). c.in_ok-slot.slot.now ≡ get_or l c.args.number.0 c.in_ok-slot.slot.now) c.deref.ensures.value found.lookup.1) in
    c.object.ensures.place ∙ place_of-slot c.self.inside.slots.items c.self.inside.tables c.args.number.0 c.in_ok-slot.slot.now c.self.invariant there
    ∙ ap (λ objects. table_place objects c.args.number.0) c.self.view_is
