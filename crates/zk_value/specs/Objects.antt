-- The records and vectors of a store by their numbers, with none for the numbers of sets and tables, and what each call
-- does with them.
use Rattle.std.specs.Prelude.{ℕ, zero, suc, List, [], ◌∷◌, ◌++◌, Option, Some, None, slice_get, slice_set}
use Rattle.std.specs.Option.{option_map}
use Rattle.zk_tree.specs.Store as object
use Rattle.zk_tree.specs.Store.{Object}
use Rattle.zk_tree.specs.Table.{Table}
use Rattle.zk_tree.specs.Value.{Value}

abbrev pub Objects : Type 0
Objects = List (Option Object)

-- the object of a number, where it is a record or a vector
abbrev pub object_at : Objects → ℕ → Option Object
object_at objects number = flat (slice_get objects number)
  where
    flat : Option (Option Object) → Option Object
    flat None = None
    flat (Some one) = one

-- Reading ----------------------------------------------------------------------------------------------------------

abbrev pub field_in : ℕ → Option Object → Option Value
field_in number (Some (object.Record of fields)) = flat (slice_get fields number)
  where
    flat : Option (Option Value) → Option Value
    flat None = None
    flat (Some value) = value
field_in number other = None

-- the value of a field of a record
abbrev pub field_at : Objects → ℕ → ℕ → Option Value
field_at objects number field = field_in field (object_at objects number)

abbrev pub item_in : ℕ → Option Object → Option Value
item_in index (Some (object.Vector items)) = slice_get items index
item_in index other = None

-- an item of a vector
abbrev pub item_at : Objects → ℕ → ℕ → Option Value
item_at objects number index = item_in index (object_at objects number)

-- Changes ----------------------------------------------------------------------------------------------------------

abbrev pub with_field : ℕ → Option Value → Object → Object
with_field number value (object.Record of fields) = object.Record of (slice_set fields number value)
with_field number value other = other

abbrev pub with_item : ℕ → Value → Object → Object
with_item index item (object.Vector items) = object.Vector (slice_set items index item)
with_item index item other = other

abbrev pub with_item_behind : Value → Object → Object
with_item_behind item (object.Vector items) = object.Vector (items ++ item ∷ [])
with_item_behind item other = other

-- the objects with the one of a number changed, where it is a record or a vector
abbrev pub change_object : (Object → Object) → ℕ → Objects → Objects
change_object changed number [] = []
change_object changed zero (one ∷ objects) = option_map changed one ∷ objects
change_object changed (suc number) (one ∷ objects) = one ∷ change_object changed number objects

-- Sets and tables --------------------------------------------------------------------------------------------------

-- the place of the set or table of a number among the sets and tables, where so many stand before these objects
abbrev pub place_from : ℕ → Objects → ℕ → Option ℕ
place_from before [] number = None
place_from before (None ∷ objects) zero = Some before
place_from before (Some one ∷ objects) zero = None
place_from before (None ∷ objects) (suc number) = place_from (suc before) objects number
place_from before (Some one ∷ objects) (suc number) = place_from before objects number

-- the place of the set or table of a number among the sets and tables, in the order of their numbers
abbrev pub table_place : Objects → ℕ → Option ℕ
table_place = place_from 0

-- how many sets and tables there are
abbrev pub tables_in : Objects → ℕ
tables_in [] = 0
tables_in (None ∷ objects) = suc (tables_in objects)
tables_in (Some one ∷ objects) = tables_in objects

-- All objects of scripts by their numbers: the sets and tables in the places of theirs, in order. Where one is missing, an
-- empty vector stands.
abbrev pub with_tables : Objects → List Table → object.Store
with_tables [] tables = []
with_tables (Some one ∷ objects) tables = one ∷ with_tables objects tables
with_tables (None ∷ objects) (table ∷ tables) = object.Table table ∷ with_tables objects tables
with_tables (None ∷ objects) [] = object.Vector [] ∷ with_tables objects []
