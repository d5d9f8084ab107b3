-- Items of vectors.
use Rattle.std.proofs.Common.{◌≡◌, ℕ, ◌<◌, cond, List, [], ◌∷◌, ◌++◌, length, Bool, true, false, Some, slice_get, slice_set, sym, ap, ◌∙◌, arith}
use Rattle.std.specs.Prelude.{nat_lt, ◌==◌}
use Rattle.std.proofs.lemmas.Bool.Decides.{nat_tests}
use Rattle.zk_base.specs.declared.numbers.ObjectNo.{ObjectNo}
use Rattle.zk_tree.specs.declared.place.Place.{Place}
use Rattle.zk_tree.specs.Store as object
use Rattle.zk_tree.specs.Value as plain
use Rattle.zk_tree.specs.Value.{Value}
use Rattle.zk_typed.specs.declared.ends.FaultKind.TheVariants.{Unset, NoIndex}
use Rattle.zk_typed.specs.Does.{Ran, Gives, Faults, and_then, or_fault, set_object, pure, fault}
use Rattle.zk_typed.specs.Objects.{set_item, with_item, vector_in}
use Rattle.zk_typed.specs.State.{State}
use Rattle.zk_value.specs.Objects as kept
use Rattle.zk_table.specs.Heap.{changed}
use Rattle.zk_table.proofs.HeapLemmas.{changed-there}
use Rattle.zk_machine.specs.State.{storing}

module _ (place : Place) (number : ObjectNo) (index : ℕ) (item : Value) (state : State) (items : List Value) (there : Some (object.Vector items) ≡ slice_get state.world.store number.0) where
  abbrev set : List Value → State → Ran (Unit {0})
  set changed now = set_object (plain.Object number) (object.Vector changed) now

  abbrev by_test : Bool → Bool → Ran (Unit {0})
  by_test inside behind = and_then (cond inside (pure (slice_set items index item)) (cond behind (pure (items ++ item ∷ [])) (fault NoIndex place)) state) set

  tested : set_item place (plain.Object number) (plain.Count index) item state ≡ by_test (nat_lt index (length items)) (index == length items)
  tested = ap (λ found. and_then (and_then (or_fault Unset place found state) (vector_in place)) (λ items now. and_then (with_item place items index item now) set)) (sym there)

  -- an item that is there gets another value
  pub item-set : index < length items → set_item place (plain.Object number) (plain.Count index) item state ≡ Gives tt (storing (changed (kept.with_item index item) number.0 state.world.store) state)
  item-set inside =
      let yes : nat_lt index (length items) ≡ true = grind (arith, nat_tests) in
      tested ∙ (ap (λ test. by_test test (index == length items)) yes
      ∙ ap (λ store. Gives tt (storing store state)) (sym (changed-there (kept.with_item index item) number.0 state.world.store (object.Vector items) (sym there))))

  -- one stands behind the last
  pub item-added : index ≡ length items → set_item place (plain.Object number) (plain.Count index) item state ≡ Gives tt (storing (changed (kept.with_item_behind item) number.0 state.world.store) state)
  item-added at =
      let no : nat_lt index (length items) ≡ false = grind (arith, nat_tests) in
      let yes : (index == length items) ≡ true = grind (arith, nat_tests) in
      tested ∙ (ap (λ test. by_test test (index == length items)) no ∙ (ap (by_test false) yes
      ∙ ap (λ store. Gives tt (storing store state)) (sym (changed-there (kept.with_item_behind item) number.0 state.world.store (object.Vector items) (sym there)))))

  -- no item is further behind
  pub item-beyond : length items < index → set_item place (plain.Object number) (plain.Count index) item state ≡ Faults NoIndex place state.world state.units
  item-beyond past =
      let no : nat_lt index (length items) ≡ false = grind (arith, nat_tests) in
      let other : (index == length items) ≡ false = grind (arith, nat_tests) in
      tested ∙ (ap (λ test. by_test test (index == length items)) no ∙ ap (by_test false) other)
