-- The objects that the slots of a store are.
use Rattle.std.specs.Prelude.{◌≡◌, ℕ, suc, List, [], ◌∷◌, map, Option, Some, None}
use Rattle.zk_tree.specs.Store as object
use Rattle.zk_tree.specs.Store.{Object}
use Rattle.zk_value.specs.declared.store.Slot.{Slot}
use Rattle.zk_value.specs.declared.store.Slot.TheVariants.{Record, Vector, Table}
use Rattle.zk_value.specs.Plain.{key_of, field_of}

-- the record or vector of a slot
abbrev pub object_of : Slot → Option Object
object_of (Record of fields) = Some (object.Record of (map field_of fields.items))
object_of (Vector items) = Some (object.Vector (key_of items.items))
object_of (Table place) = None

-- the place of the set or table of a slot
abbrev pub place_of : Slot → Option ℕ
place_of (Record of fields) = None
place_of (Vector items) = None
place_of (Table place) = Some place

abbrev pub objects_of : List Slot → List (Option Object)
objects_of slots = map object_of slots

-- The sets and tables of the slots are numbered one after another from the first of these numbers, and the other one comes
-- next.
abbrev pub PlacesFrom : ℕ → List Slot → ℕ → Type 0
PlacesFrom before [] next = before ≡ next
PlacesFrom before (Record of fields ∷ slots) next = PlacesFrom before slots next
PlacesFrom before (Vector items ∷ slots) next = PlacesFrom before slots next
PlacesFrom before (Table place ∷ slots) next = (place ≡ before) × PlacesFrom (suc before) slots next
