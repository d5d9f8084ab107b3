-- What is done to an object that is there.
use Rattle.std.proofs.Common.{◌≡◌, ℕ, Some, slice_get, slice_set, refl, sym, ap, ◌∙◌}
use Rattle.zk_base.specs.declared.numbers.ObjectNo.{ObjectNo}
use Rattle.zk_base.specs.declared.time.Moment.{Moment}
use Rattle.zk_tree.specs.declared.place.Place.{Place}
use Rattle.zk_tree.specs.Store as object
use Rattle.zk_tree.specs.Store.{Object}
use Rattle.zk_tree.specs.Table.{Table}
use Rattle.zk_tree.specs.Value as plain
use Rattle.zk_tree.specs.Value.{Value}
use Rattle.zk_typed.specs.declared.ends.FaultKind.TheVariants.{Unset}
use Rattle.zk_typed.specs.Does.{Gives, and_then, or_fault, set_object}
use Rattle.zk_typed.specs.Objects.{set_field, with_field, change_table, table_in, set_table}
use Rattle.zk_typed.specs.State.{State}
use Rattle.zk_value.specs.Objects as kept
use Rattle.zk_table.specs.Heap.{changed, in_table}
use Rattle.zk_table.proofs.HeapLemmas.{changed-there}
use Rattle.zk_machine.specs.State.{storing}

with_field-kept : (number : ℕ) (value : Value) (one : Object) → kept.with_field number (Some value) one ≡ with_field number value one
with_field-kept number value (object.Record of fields) = refl
with_field-kept number value (object.Vector items) = refl
with_field-kept number value (object.Table table) = refl

pub set_field-there : (place : Place) (number : ObjectNo) (field : ℕ) (value : Value) (state : State) (one : Object) → Some one ≡ slice_get state.world.store number.0
    → set_field place (plain.Object number) field value state ≡ Gives tt (storing (changed (kept.with_field field (Some value)) number.0 state.world.store) state)
set_field-there place number field value state one there =
    ap (λ found. and_then (or_fault Unset place found state) (λ one. set_object (plain.Object number) (with_field field value one))) (sym there)
    ∙ ap (λ store. Gives tt (storing store state))
    (ap (slice_set state.world.store number.0) (sym (with_field-kept field value one))
    ∙ sym (changed-there (kept.with_field field (Some value)) number.0 state.world.store one (sym there)))

pub change_table-there : (change : Moment → Table → Table) (place : Place) (number : ObjectNo) (state : State) (table : Table) → Some (object.Table table) ≡ slice_get state.world.store number.0
    → change_table place (plain.Object number) change state ≡ Gives tt (storing (changed (in_table (change state.world.time)) number.0 state.world.store) state)
change_table-there change place number state table there =
    ap (λ found. and_then (and_then (or_fault Unset place found state) (table_in place)) (λ one now. set_table (plain.Object number) (change now.world.time one) now)) (sym there)
    ∙ ap (λ store. Gives tt (storing store state))
    (sym (changed-there (in_table (change state.world.time)) number.0 state.world.store (object.Table table) (sym there)))
