-- What a store lends of an object.
use Rattle.std.specs.Prelude.{ℕ, map, Option, Some, None}
use Rattle.zk_tree.specs.Store as object
use Rattle.zk_value.specs.declared.object.Object.{Object}
use Rattle.zk_value.specs.declared.object.Object.TheVariants.{Record, Vector, Table}
use Rattle.zk_value.specs.Plain.{key_of, field_of}

-- the record or vector
abbrev pub object_in : Object → Option object.Object
object_in (Record of fields) = Some (object.Record of (map field_of fields.now))
object_in (Vector items) = Some (object.Vector (key_of items.now))
object_in (Table place) = None

-- the place of the set or table among the sets and tables
abbrev pub place_in : Object → Option ℕ
place_in (Record of fields) = None
place_in (Vector items) = None
place_in (Table place) = Some place
