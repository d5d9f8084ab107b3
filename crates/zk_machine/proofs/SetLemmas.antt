-- Members of one set come into another, or leave it.
use Rattle.std.proofs.Common.{◌≡◌, ℕ, zero, suc, List, [], ◌∷◌, ◌++◌, fold, Some, slice_get, refl, sym, ap, ◌∙◌}
use Rattle.std.proofs.lemmas.List.Sums.{fold-append}
use Rattle.zk_base.specs.declared.numbers.ObjectNo.{ObjectNo}
use Rattle.zk_tree.specs.declared.place.Place.{Place}
use Rattle.zk_tree.specs.Store as object
use Rattle.zk_tree.specs.Store.{Object, Store}
use Rattle.zk_tree.specs.Table.{Table}
use Rattle.zk_tree.specs.Value as plain
use Rattle.zk_tree.specs.Value.{Value}
use Rattle.zk_typed.specs.declared.script.primitive.Binary.{Binary}
use Rattle.zk_typed.specs.declared.script.primitive.Binary.TheVariants.{Plus, Minus}
use Rattle.zk_typed.specs.Does.{Gives, and_then}
use Rattle.zk_typed.specs.Objects.{add_all, add_member, keys_of, remove_all}
use Rattle.zk_typed.specs.Operators.{binary}
use Rattle.zk_typed.specs.Primitives.{into_object, updated}
use Rattle.zk_typed.specs.State.{State}
use Rattle.zk_tree.specs.Table.{remove}
use Rattle.zk_value.specs.Plain.{value_of}
use Rattle.zk_value.specs.declared.value.Value as rust
use Rattle.zk_value.specs.declared.value.Value.TheVariants as one
use Rattle.zk_machine.specs.State.{storing}
use Rattle.zk_machine.proofs.ObjectLemmas.{change_table-there}
use Rattle.zk_table.specs.Heap.{changed, in_table}

pub changed-alike : (change other : Object → Object) (number : ℕ) (store : Store) → ((one : Object) → change one ≡ other one) → changed change number store ≡ changed other number store
changed-alike change other number [] alike = refl
changed-alike change other zero (one ∷ store) alike = ap (λ o. o ∷ store) (alike one)
changed-alike change other (suc number) (one ∷ store) alike = ap (λ os. one ∷ os) (changed-alike change other number store alike)

pub changed-twice : (change other : Object → Object) (number : ℕ) (store : Store) → changed other number (changed change number store) ≡ changed (λ one. other (change one)) number store
changed-twice change other number [] = refl
changed-twice change other zero (one ∷ store) = refl
changed-twice change other (suc number) (one ∷ store) = ap (λ os. one ∷ os) (changed-twice change other number store)

pub changed-none : (number : ℕ) (store : Store) (change : Object → Object) → ((one : Object) → change one ≡ one) → changed change number store ≡ store
changed-none number [] change same = refl
changed-none zero (one ∷ store) change same = ap (λ o. o ∷ store) (same one)
changed-none (suc number) (one ∷ store) change same = ap (λ os. one ∷ os) (changed-none number store change same)

module _ {A : Type 0} (step : Table → A → Table) where
  abbrev folded : List A → Object → Object
  folded keys = in_table (λ table. fold step table keys)

  folded-more : (keys : List A) (key : A) (one : Object) → in_table (λ table. step table key) (folded keys one) ≡ folded (keys ++ key ∷ []) one
  folded-more keys key (object.Table table) = ap object.Table (sym (fold-append step table keys (key ∷ [])))
  folded-more keys key (object.Vector items) = refl
  folded-more keys key (object.Record of fields) = refl

  folded-none : (one : Object) → folded [] one ≡ one
  folded-none (object.Table table) = refl
  folded-none (object.Vector items) = refl
  folded-none (object.Record of fields) = refl

  -- one key more
  pub all-more : (number : ℕ) (store : Store) (keys : List A) (key : A)
      → changed (in_table (λ table. step table key)) number (changed (in_table (λ table. fold step table keys)) number store) ≡ changed (in_table (λ table. fold step table (keys ++ key ∷ []))) number store
  all-more number store keys key =
      changed-twice (folded keys) (in_table (λ table. step table key)) number store
      ∙ changed-alike (λ one. in_table (λ table. step table key) (folded keys one)) (folded (keys ++ key ∷ [])) number store (folded-more keys key)

  pub all-none : (number : ℕ) (store : Store) → store ≡ changed (in_table (λ table. fold step table (let keys : List A = [] in keys))) number store
  all-none number store = sym (changed-none number store (folded []) folded-none)

module _ (place : Place) (number others : ObjectNo) (members other : Table) (state : State)
    (there : Some (object.Table members) ≡ slice_get state.world.store number.0) (here : Some (object.Table other) ≡ slice_get state.world.store others.0) where
  pub plus_gives : into_object place Plus (plain.Object number) (plain.Object others) (object.Table members) state
      ≡ Gives (plain.Object number) (storing (changed (in_table (λ table. fold (add_member state.world.time) table (keys_of other))) number.0 state.world.store) state)
  plus_gives =
      let first : into_object place Plus (plain.Object number) (plain.Object others) (object.Table members) state ≡ and_then (add_all place (plain.Object number) other state) (λ u now. Gives (plain.Object number) now) = rw (sym here) refl in
      first ∙ ap (λ ran. and_then ran (λ u now. Gives (plain.Object number) now))
      (change_table-there (λ moment table. fold (add_member moment) table (keys_of other)) place number state members there)

  pub minus_gives : into_object place Minus (plain.Object number) (plain.Object others) (object.Table members) state
      ≡ Gives (plain.Object number) (storing (changed (in_table (λ table. fold (λ left key. remove key left) table (keys_of other))) number.0 state.world.store) state)
  minus_gives =
      let first : into_object place Minus (plain.Object number) (plain.Object others) (object.Table members) state ≡ and_then (remove_all place (plain.Object number) other state) (λ u now. Gives (plain.Object number) now) = rw (sym here) refl in
      first ∙ ap (λ ran. and_then ran (λ u now. Gives (plain.Object number) now))
      (change_table-there (λ moment table. fold (λ left key. remove key left) table (keys_of other)) place number state members there)

-- a value that is no object
pub updated_value : (place : Place) (by : Binary) (value : rust.Value) (other : Value) → ((number : ObjectNo) → value ≡ one.Object number → ⊥)
    → updated place by (value_of value) other ≡ binary place by (value_of value) other
updated_value place by (one.Bool truth) other none = refl
updated_value place by (one.Count count) other none = refl
updated_value place by (one.Int int) other none = refl
updated_value place by (one.String bytes) other none = refl
updated_value place by (one.Time moment) other none = refl
updated_value place by (one.Interval span) other none = refl
updated_value place by (one.Addr address) other none = refl
updated_value place by (one.Port port proto) other none = refl
updated_value place by (one.Subnet prefix width) other none = refl
updated_value place by (one.Enum word) other none = refl
updated_value place by (one.Object number) other none = absurd (none number refl)
