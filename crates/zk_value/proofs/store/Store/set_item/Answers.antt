use Rattle.std.proofs.Common.{◌≡◌, ◌≤◌, ◌<◌, Some, length, slice_get, refl, sym, ap, ◌∙◌, arith}
use Rattle.std.proofs.lemmas.Option.{slice_get_read}
use Rattle.zk_value.specs.Objects.{change_object, with_item}
use Rattle.zk_value.specs.Plain.{value_of}
use Rattle.zk_value.specs.Slots.{objects_of}
use Rattle.zk_value.proofs.StoreLemmas.{PlacesFrom-set, objects_of-set, past_objects}
use Rattle.zk_value.proofs.store.Store.set_item.Goals as goal

pub invariant_of-self : goal.invariant_of-self
invariant_of-self c =
    let within : c.args.number.0 < length c.self.inside.slots.items = omega arith in
    let there : slice_get c.self.inside.slots.items c.args.number.0 ≡ Some c.index_mut.result.now =
    slice_get_read c.self.inside.slots.items (length c.self.inside.slots.items) c.args.number.0 c.index_mut.result.now refl within c.index_mut.ensures.value in
    PlacesFrom-set 0 c.self.inside.slots.items c.self.inside.tables c.args.number.0 c.index_mut.result.now c.set_item.new.self there c.set_item.ensures.place c.self.invariant

pub returns-then-place-len : goal.returns-then-place-len
returns-then-place-len c =
    let within : c.args.number.0 < length c.self.inside.slots.items = omega arith in
    let there : slice_get c.self.inside.slots.items c.args.number.0 ≡ Some c.index_mut.result.now =
    slice_get_read c.self.inside.slots.items (length c.self.inside.slots.items) c.args.number.0 c.index_mut.result.now refl within c.index_mut.ensures.value in
    objects_of-set (with_item c.args.index (value_of c.args.item)) c.self.inside.slots.items c.args.number.0 c.index_mut.result.now c.set_item.new.self there c.set_item.ensures.object
    ∙ ap (change_object (with_item c.args.index (value_of c.args.item)) c.args.number.0) c.self.view_is

pub returns-else-place-len : goal.returns-else-place-len
returns-else-place-len c =
    let past : length c.self.inside.slots.items ≤ c.args.number.0 = omega arith in
    past_objects (with_item c.args.index (value_of c.args.item)) c.self.inside.slots.items c.args.self.now c.args.number.0 past c.self.view_is
