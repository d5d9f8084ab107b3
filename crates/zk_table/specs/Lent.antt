-- What a heap lends of an object.
use Rattle.std.specs.Prelude.{map}
use Rattle.zk_tree.specs.Store as object
use Rattle.zk_value.specs.Plain.{key_of, field_of}
use Rattle.zk_table.specs.declared.objects.Lent.{Lent}
use Rattle.zk_table.specs.declared.objects.Lent.TheVariants.{Record, Vector, Table}

abbrev pub object_of : Lent → object.Object
object_of (Record of fields) = object.Record of (map field_of fields.now)
object_of (Vector items) = object.Vector (key_of items.now)
object_of (Table table) = object.Table table.now
