use Rattle.std.proofs.Common.{◌≡◌, ◌≤◌, ◌<◌, Some, length, slice_get, refl, sym, ap, ◌∙◌, arith}
use Rattle.std.proofs.lemmas.Option.{slice_get_read}
use Rattle.std.proofs.lemmas.Result.{on_ok_weaker, on_err_weaker}
use Rattle.std.proofs.Math.Seq.{map-set_same}
use Rattle.zk_value.specs.Objects.{change_object, with_item_behind}
use Rattle.zk_value.specs.Plain.{value_of}
use Rattle.zk_value.specs.Slots.{object_of}
use Rattle.zk_value.proofs.StoreLemmas.{PlacesFrom-set, objects_of-set, past_objects}
use Rattle.zk_value.proofs.store.Store.push_item.Goals as goal

pub invariant_of-self : goal.invariant_of-self
invariant_of-self c =
    let within : c.args.number.0 < length c.self.inside.slots.items = omega arith in
    let there : slice_get c.self.inside.slots.items c.args.number.0 ≡ Some c.index_mut.result.now =
    slice_get_read c.self.inside.slots.items (length c.self.inside.slots.items) c.args.number.0 c.index_mut.result.now refl within c.index_mut.ensures.value in
    PlacesFrom-set 0 c.self.inside.slots.items c.self.inside.tables c.args.number.0 c.index_mut.result.now c.push_item.new.self there c.push_item.ensures.place c.self.invariant

pub returns-then-place-len-clause-ok : goal.returns-then-place-len-clause-ok
returns-then-place-len-clause-ok c =
    let within : c.args.number.0 < length c.self.inside.slots.items = omega arith in
    let there : slice_get c.self.inside.slots.items c.args.number.0 ≡ Some c.index_mut.result.now =
    slice_get_read c.self.inside.slots.items (length c.self.inside.slots.items) c.args.number.0 c.index_mut.result.now refl within c.index_mut.ensures.value in
    on_ok_weaker c.push_item.result
    (λ same. objects_of-set (with_item_behind (value_of c.args.item)) c.self.inside.slots.items c.args.number.0 c.index_mut.result.now c.push_item.new.self there same
    ∙ ap (change_object (with_item_behind (value_of c.args.item)) c.args.number.0) c.self.view_is)
    c.push_item.ensures.ok

pub returns-then-place-len-clause-err : goal.returns-then-place-len-clause-err
returns-then-place-len-clause-err c =
    on_err_weaker c.push_item.result
    (λ same. map-set_same object_of c.self.inside.slots.items c.args.number.0 c.push_item.new.self c.index_mut.result.now (same ∙ ap object_of c.index_mut.ensures.value)
    ∙ c.self.view_is)
    c.push_item.ensures.err

pub returns-clause-ok : goal.returns-clause-ok
returns-clause-ok c =
    let past : length c.self.inside.slots.items ≤ c.args.number.0 = omega arith in
    past_objects (with_item_behind (value_of c.args.item)) c.self.inside.slots.items c.args.self.now c.args.number.0 past c.self.view_is
