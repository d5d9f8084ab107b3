-- The columns of a record type and the cells of a record (Zeek manual, Logging Framework): its fields in order, with the
-- fields of a nested record in the place of the field that holds it, named with a point between.
use Rattle.std.specs.Prelude.{ℕ, zero, suc, ◌+◌, Bool, ◌&&◌, List, [], ◌∷◌, ◌++◌, map, codes, decimal, Option, Some, None, slice_get}
use Rattle.zk_base.specs.declared.numbers.RecordNo.{RecordNo}
use Rattle.zk_tree.specs.Lists.{joined_by}
use Rattle.zk_tree.specs.Store.{Object, Store}
use Rattle.zk_tree.specs.Store as object
use Rattle.zk_tree.specs.Value as plain
use Rattle.zk_tree.specs.Value.{Value}
use Rattle.zk_typed.specs.declared.script.types.SimpleType.{SimpleType}
use Rattle.zk_typed.specs.declared.script.types.SimpleType.TheVariants as simple
use Rattle.zk_typed.specs.Log.{Column, Atom, Text, Plain, Cell, Unset, One, Many}
use Rattle.zk_typed.specs.Objects.{in_field, keys_of}
use Rattle.zk_typed.specs.Program.{Program, RecordType, Field}
use Rattle.zk_typed.specs.Text.{text_of}
use Rattle.zk_typed.specs.Types.{ValueType, Simple, Record, Table, Set, Vector}

-- The names of types ------------------------------------------------------------------------------------------------

abbrev pub simple_name : SimpleType → List ℕ
simple_name simple.Bool = codes "bool"
simple_name simple.Count = codes "count"
simple_name simple.Int = codes "int"
simple_name simple.String = codes "string"
simple_name simple.Time = codes "time"
simple_name simple.Interval = codes "interval"
simple_name simple.Addr = codes "addr"
simple_name simple.Port = codes "port"
simple_name simple.Subnet = codes "subnet"
simple_name (simple.Enum number) = codes "enum"

abbrev pub type_name : ValueType → List ℕ
type_name (Simple one) = simple_name one
type_name (Set keys) = codes "set[" ++ joined_by (codes ",") (map simple_name keys) ++ codes "]"
type_name (Vector item) = codes "vector[" ++ type_name item ++ codes "]"
-- no column has such a type
type_name (Record number) = codes "record"
type_name (Table keys value) = codes "table"

-- The fields of a type -----------------------------------------------------------------------------------------------

-- a field that is no record, or one within records: the column that it would be, the numbers of the fields that lead to it,
-- and whether each of these is marked `&log`
pub record Leaf : Type 0 where
  pub column : Column
  pub path : List ℕ
  pub log : Bool

abbrev pub record_fields : Program → RecordNo → List Field
record_fields program number = fields_in (slice_get program.records number.0)
  where
    fields_in : Option RecordType → List Field
    fields_in None = []
    fields_in (Some one) = one.fields

-- a leaf of the record in a field
abbrev pub within : ℕ → Field → Leaf → Leaf
within number field leaf = record {
  column = record leaf.column { name = field.name ++ codes "." ++ leaf.column.name };
  path = number ∷ leaf.path;
  log = field.log && leaf.log;
}

abbrev pub field_leaves : (RecordNo → List Leaf) → ℕ → Field → ValueType → List Leaf
field_leaves leaves number field (Record nested) = map (within number field) (leaves nested)
field_leaves leaves number field other = record {
  column = record { name = field.name; kind = type_name other; wire = field.wire };
  path = number ∷ [];
  log = field.log;
} ∷ []

abbrev pub leaves_from : (RecordNo → List Leaf) → ℕ → List Field → List Leaf
leaves_from leaves number [] = []
leaves_from leaves number (field ∷ fields) = field_leaves leaves number field field.field_type ++ leaves_from leaves (number + 1) fields

-- to a depth of records within one another; no type nests deeper than 200
abbrev pub leaves_to : ℕ → Program → RecordNo → List Leaf
leaves_to zero program number = []
leaves_to (suc depth) program number = leaves_from (leaves_to depth program) 0 (record_fields program number)

abbrev pub leaves : Program → RecordNo → List Leaf
leaves = leaves_to 200

-- The cells of a record ---------------------------------------------------------------------------------------------

-- a string's bytes, a port's number alone, and the text of any other value
abbrev pub atom : Value → Atom
atom (plain.String bytes) = Text bytes
atom (plain.Port port proto) = Plain (decimal port)
atom value = Plain (text_of value)

abbrev pub first_atoms : List (List Value) → List Atom
first_atoms [] = []
first_atoms ([] ∷ keys) = first_atoms keys
first_atoms ((value ∷ values) ∷ keys) = atom value ∷ first_atoms keys

abbrev pub object_cell : Option Object → Cell
object_cell None = Unset
object_cell (Some (object.Vector items)) = Many (map atom items)
object_cell (Some (object.Table table)) = Many (first_atoms (keys_of table))
object_cell (Some (object.Record number fields)) = Unset

abbrev pub value_cell : Store → Option Value → Cell
value_cell store None = Unset
value_cell store (Some (plain.Object number)) = object_cell (slice_get store number.0)
value_cell store (Some value) = One (atom value)

abbrev pub fields_of : Option Object → List (Option Value)
fields_of (Some (object.Record number fields)) = fields
fields_of other = []

abbrev pub fields_behind : Store → Option Value → List (Option Value)
fields_behind store (Some (plain.Object number)) = fields_of (slice_get store number.0)
fields_behind store other = []

-- the value that fields lead to from a record, where each of them has one
abbrev pub value_at : Store → List ℕ → Option Value → Option Value
value_at store [] value = value
value_at store (number ∷ path) value = value_at store path (in_field number (fields_behind store value))
