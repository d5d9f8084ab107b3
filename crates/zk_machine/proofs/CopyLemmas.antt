-- Copies of what objects hold.
use Rattle.std.proofs.Common.{◌≡◌, List, [], ◌∷◌, map, Option, Some, None, slice_get, Err, refl, sym, ap}
use Rattle.zk_base.specs.declared.numbers.ObjectNo.{ObjectNo}
use Rattle.zk_tree.specs.declared.place.Place.{Place}
use Rattle.zk_tree.specs.Store as object
use Rattle.zk_tree.specs.Store.{Object}
use Rattle.zk_tree.specs.Table.{Table, Entry, insert}
use Rattle.zk_tree.specs.Value.{Value}
use Rattle.zk_typed.specs.declared.ends.FaultKind.TheVariants.{Unset}
use Rattle.zk_typed.specs.declared.script.literal.DefaultValue.{DefaultValue}
use Rattle.zk_typed.specs.Does.{Does, Ran, Gives, and_then, or_fault, new_object}
use Rattle.zk_typed.specs.Objects.{entries_copied, object_copied, empty_table, keep_default, default_named}
use Rattle.zk_typed.specs.State.{State}
use Rattle.zk_table.specs.Pairs.{pair_in}
use Rattle.zk_machine.specs.Comes.{Comes}
use Rattle.zk_machine.specs.Copied.{pairs_copied, read_copied, Splits}
use Rattle.zk_machine.specs.declared.halt.Halt.{Halt}
use Rattle.zk_machine.specs.declared.halt.Halt.TheVariants as halt
use Rattle.zk_machine.proofs.ThenLemmas.{then_alike}

-- where there are no parts nothing is copied
pub splits_stop : {A : Type 0} (copied : Value → Does Value) (view : A → Value) (place : Place) (why : Halt) (ran : Ran Value) (now : State) → Splits copied place (Err why) ran now → Comes view place (Err why) ran now
splits_stop copied view place (halt.Fault kind) ran now e = e
splits_stop copied view place halt.Spent ran now e = e
splits_stop copied view place halt.NoMemory ran now e = tt

module _ (copied : Value → Does Value) where
  -- entries are copied as keys with values
  pub entries-pairs : (entries : List Entry) (table : Table) (state : State) → entries_copied copied table entries state ≡ pairs_copied copied table (map pair_in entries) state
  entries-pairs [] table state = refl
  entries-pairs (entry ∷ entries) table state =
      then_alike (copied entry.value state) _ _ (λ value now. entries-pairs entries (insert now.world.time entry.key value table) now)

  -- a copy of an object that is there
  pub read-there : (place : Place) (number : ObjectNo) (state : State) (one : Object) → Some one ≡ slice_get state.world.store number.0
      → read_copied copied place number state ≡ object_copied copied (default_named number.0 state.world.defaults) one state
  read-there place number state one there =
      ap (λ found. and_then (or_fault Unset place found state) (λ one now. object_copied copied (default_named number.0 now.world.defaults) one now)) (sym there)

  -- a copy of a table is one of its keys with their values
  pub table-pairs : (default : Option DefaultValue) (table : Table) (state : State) → object_copied copied default (object.Table table) state
      ≡ and_then (pairs_copied copied (empty_table None) (map pair_in table.entries) state) (λ one now. and_then (new_object (object.Table one) now) (keep_default default))
  table-pairs default table state =
      ap (λ ran. and_then ran (λ one now. and_then (new_object (object.Table one) now) (keep_default default))) (entries-pairs table.entries (empty_table None) state)

  -- one key with its value more
  pub pairs-step : (table : Table) (pair : List Value × Value) (pairs : List (List Value × Value)) (state mid : State) (value : Value) → copied pair.1 state ≡ Gives value mid
      → pairs_copied copied table (pair ∷ pairs) state ≡ pairs_copied copied (insert mid.world.time pair.0 value table) pairs mid
  pairs-step table pair pairs state mid value is =
      ap (λ ran. and_then ran (λ value now. pairs_copied copied (insert now.world.time pair.0 value table) pairs now)) is
