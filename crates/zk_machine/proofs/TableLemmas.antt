-- What is found in tables, and what is made of them.
use Rattle.std.proofs.Common.{◌≡◌, ℕ, zero, suc, cond, ◌+◌, ◌-◌, ◌<◌, ◌≤◌, List, [], ◌∷◌, ◌++◌, length, take, drop, get_or, fold, Some, None, Bool, true, false, is_some, slice_get, slice_set, refl, sym, ap, ◌∙◌, arith}
use Rattle.std.specs.Prelude.{◌/◌}
use Rattle.std.proofs.Math.Nat.{div-eq-sub-div, div-eq_of_lt, div-zero}
use Rattle.std.proofs.lemmas.List.{length-drop, length-take-le, take_more, take_at, drop_at}
use Rattle.std.proofs.lemmas.Option.{same_Some}
use Rattle.zk_base.specs.declared.numbers.ObjectNo.{ObjectNo}
use Rattle.zk_base.specs.declared.time.Moment.{Moment}
use Rattle.zk_tree.specs.declared.place.Place.{Place}
use Rattle.zk_tree.specs.Store as object
use Rattle.zk_tree.specs.Table.{Table, entry_at, insert, renew}
use Rattle.zk_tree.specs.Value as plain
use Rattle.zk_tree.specs.Value.{Value}
use Rattle.zk_typed.specs.declared.ends.FaultKind.TheVariants.{Unset}
use Rattle.zk_typed.specs.Does.{Gives, and_then, or_fault}
use Rattle.zk_typed.specs.Objects.{element, has_key, found, finds_renew, table, table_in, groups, with_pair}
use Rattle.zk_typed.specs.State.{State}
use Rattle.zk_table.specs.Heap.{changed, in_table}
use Rattle.zk_table.proofs.HeapLemmas.{changed-there}
use Rattle.zk_machine.specs.Finding.{find, or_default}
use Rattle.zk_machine.specs.Found.{value_in}
use Rattle.zk_machine.specs.State.{storing}
use Rattle.zk_machine.proofs.ThenLemmas.{then_assoc, then_alike}

pub slice_set-same : {A : Type 0} (xs : List A) (i : ℕ) (x : A) → slice_get xs i ≡ Some x → slice_set xs i x ≡ xs
slice_set-same [] i x there = refl
slice_set-same (y ∷ xs) zero x there = ap (λ one. one ∷ xs) (sym (same_Some y x there))
slice_set-same (y ∷ xs) (suc i) x there = ap (λ others. y ∷ others) (slice_set-same xs i x there)

module _ (place : Place) (number : ObjectNo) (key : List Value) (state : State) where
  -- a search in a table that is there
  find-there : (one : Table) → Some (object.Table one) ≡ slice_get state.world.store number.0
      → find place (plain.Object number) key state ≡ Gives (value_in (entry_at key one.entries)) (storing (slice_set state.world.store number.0 (object.Table (found state.world.time key one))) state)
  find-there one there =
      ap (λ of. and_then (and_then (or_fault Unset place of state) (table_in place))
      (λ one now. Gives (value_in (entry_at key one.entries)) (storing (slice_set now.world.store number.0 (object.Table (found now.world.time key one))) now))) (sym there)

  pub find-renews : (one : Table) → Some (object.Table one) ≡ slice_get state.world.store number.0 → finds_renew one.expiry ≡ true
      → find place (plain.Object number) key state ≡ Gives (value_in (entry_at key one.entries)) (storing (changed (in_table (renew state.world.time key)) number.0 state.world.store) state)
  find-renews one there renews =
      find-there one there
      ∙ (ap (λ (test : Bool). Gives (value_in (entry_at key one.entries)) (storing (slice_set state.world.store number.0 (object.Table (cond test (renew state.world.time key one) one))) state)) renews
      ∙ ap (λ store. Gives (value_in (entry_at key one.entries)) (storing store state)) (sym (changed-there (in_table (renew state.world.time key)) number.0 state.world.store (object.Table one) (sym there))))

  pub find-stays : (one : Table) → Some (object.Table one) ≡ slice_get state.world.store number.0 → finds_renew one.expiry ≡ false
      → find place (plain.Object number) key state ≡ Gives (value_in (entry_at key one.entries)) state
  find-stays one there stays =
      find-there one there
      ∙ (ap (λ (test : Bool). Gives (value_in (entry_at key one.entries)) (storing (slice_set state.world.store number.0 (object.Table (cond test (renew state.world.time key one) one))) state)) stays
      ∙ ap (λ store. Gives (value_in (entry_at key one.entries)) (storing store state)) (slice_set-same state.world.store number.0 (object.Table one) (sym there)))

  -- an element is what is found, or the default
  pub element-found : element place (plain.Object number) key state ≡ and_then (find place (plain.Object number) key state) (or_default place (plain.Object number))
  element-found =
      then_alike (table place (plain.Object number) state) _ _ (λ one now. elim (entry_at key one.entries) as (λ entry.
      and_then (Gives (tt {0}) (storing (slice_set now.world.store number.0 (object.Table (found now.world.time key one))) now)) (λ u now. Rattle.zk_typed.specs.Objects.entry_value place (plain.Object number) entry now)
      ≡ and_then (Gives (value_in entry) (storing (slice_set now.world.store number.0 (object.Table (found now.world.time key one))) now)) (or_default place (plain.Object number))) [
        | Some entry ↦ refl
        | None ↦ refl
      ])
      ∙ sym (then_assoc (table place (plain.Object number) state) _ (or_default place (plain.Object number)))

  pub has_key-found : has_key place (plain.Object number) key state ≡ and_then (find place (plain.Object number) key state) (λ value now. Gives (plain.Bool (is_some value)) now)
  has_key-found =
      then_alike (table place (plain.Object number) state) _ _ (λ one now. elim (entry_at key one.entries) as (λ entry.
      Gives (plain.Bool (is_some entry)) (storing (slice_set now.world.store number.0 (object.Table (found now.world.time key one))) now)
      ≡ Gives (plain.Bool (is_some (value_in entry))) (storing (slice_set now.world.store number.0 (object.Table (found now.world.time key one))) now)) [
        | Some entry ↦ refl
        | None ↦ refl
      ])
      ∙ sym (then_assoc (table place (plain.Object number) state) _ (λ value now. Gives (plain.Bool (is_some value)) now))

-- Groups -----------------------------------------------------------------------------------------------------------

-- the first group and those behind it
pub groups-more : (size : ℕ) (values : List Value) → 0 < size → size ≤ length values → groups size values ≡ take size values ∷ groups size (drop size values)
groups-more size values some within =
    ap (λ (n : ℕ). Rattle.zk_typed.specs.Objects.groups_to n size values) (div-eq-sub-div some within ∙ (let e : (length values - size) / size + 1 ≡ suc ((length values - size) / size) = omega arith in e))
    ∙ ap (λ (n : ℕ). take size values ∷ Rattle.zk_typed.specs.Objects.groups_to (n / size) size (drop size values)) (sym (length-drop size values))

-- none is left
pub groups-none : (size : ℕ) (values : List Value) → length values < size → groups size values ≡ []
groups-none size values short = ap (λ (n : ℕ). Rattle.zk_typed.specs.Objects.groups_to n size values) (div-eq_of_lt short)

pub groups-nothing : (values : List Value) → groups 0 values ≡ []
groups-nothing values = ap (λ (n : ℕ). Rattle.zk_typed.specs.Objects.groups_to n 0 values) (div-zero (length values))

-- a group of a key and a value behind it
pub pair-inserted : (keys : ℕ) (moment : Moment) (one : Table) (values : List Value) (value : Value) → keys < length values → value ≡ get_or values keys value
    → with_pair keys moment one (take (keys + 1) values) ≡ insert moment (take keys values) value one
pair-inserted keys moment one values value within is =
    let long : length (take keys values) ≡ keys = length-take-le keys values (omega arith) in
    ap (with_pair keys moment one) (take_more values keys value within ∙ ap (λ v. take keys values ++ v ∷ []) (sym is))
    ∙ (ap (λ (behind : List Value). fold (λ filled one. insert moment (take keys (take keys values ++ value ∷ [])) one filled) one behind) (drop_at (take keys values) (value ∷ []) keys long)
    ∙ ap (λ (key : List Value). insert moment key value one) (take_at (take keys values) (value ∷ []) keys long))
