-- What scripts do with records, vectors, sets and tables (Zeek manual, Types).
use Rattle.std.specs.Prelude.{ℕ, zero, suc, ◌+◌, ◌/◌, ◌==◌, nat_lt, nat_abs, Bool, true, false, List, [], ◌∷◌, ◌++◌, length, map, take, drop, fold, find, Option, Some, None, is_some, slice_get, slice_set, if◌then◌else◌}
use Rattle.std.specs.Option.{option_map}
use Rattle.zk_base.specs.declared.numbers.RecordNo.{RecordNo}
use Rattle.zk_base.specs.declared.time.Moment.{Moment}
use Rattle.zk_tree.specs.declared.expiry.Expiry.{Expiry}
use Rattle.zk_tree.specs.declared.expiry.Expiry.TheVariants as expiry
use Rattle.zk_tree.specs.declared.place.Place.{Place}
use Rattle.zk_tree.specs.Store.{Object}
use Rattle.zk_tree.specs.Store as object
use Rattle.zk_tree.specs.Table.{Table, Entry, entry_at, insert, remove, renew}
use Rattle.zk_tree.specs.Value as plain
use Rattle.zk_tree.specs.Value.{Value}
use Rattle.zk_typed.specs.declared.ends.FaultKind.TheVariants.{NoIndex, NoField}
use Rattle.zk_typed.specs.declared.script.literal.DefaultValue.{DefaultValue}
use Rattle.zk_typed.specs.declared.script.literal.DefaultValue.TheVariants.{Literal, EmptyTable, EmptyVector}
use Rattle.zk_typed.specs.declared.script.literal.Sign.{Sign}
use Rattle.zk_typed.specs.declared.script.literal.Sign.TheVariants.{Plain, Converted, Negated}
use Rattle.zk_typed.specs.declared.script.primitive.Shape.{Shape}
use Rattle.zk_typed.specs.declared.script.primitive.Unary.TheVariants.{Negate, ToInt}
use Rattle.zk_typed.specs.Does.{Does, ◌>>=◌, ◌>>◌, pure, fault, or_fault, misfit, tick, read, change, object, set_object, new_object}
use Rattle.zk_typed.specs.Operators.{unary}
use Rattle.zk_typed.specs.Program.{Field}
use Rattle.zk_typed.specs.State.{World, TableDefault, with_defaults}
use Rattle.zk_typed.specs.View.{literal_value}

-- network time
abbrev pub now : Does Moment
now = read (λ world. world.time)

-- What there is by default -----------------------------------------------------------------------------------------

abbrev pub signed : Place → Sign → Value → Does Value
signed place Plain value = pure value
signed place Converted value = unary place ToInt value
signed place Negated value = unary place Negate value

-- a table or set without entries
abbrev pub empty_table : Option Expiry → Table
empty_table expiry = record { expiry = expiry; insertions = 0; entries = [] }

-- the value of a `&default`; that of a container is a new one each time
abbrev pub default_value : Place → DefaultValue → Does Value
default_value place (Literal literal sign) = signed place sign (literal_value literal)
default_value place EmptyTable = new_object (object.Table (empty_table None))
default_value place EmptyVector = new_object (object.Vector [])

-- Tables and sets --------------------------------------------------------------------------------------------------

abbrev pub table_in : Place → Object → Does Table
table_in place (object.Table table) = pure table
table_in place other = misfit place

abbrev pub table : Place → Value → Does Table
table place value = object place value >>= table_in place

abbrev pub set_table : Value → Table → Does (Unit {0})
set_table value table = set_object value (object.Table table)

-- a key that is found renews its entry under `&read_expire`
abbrev pub finds_renew : Option Expiry → Bool
finds_renew None = false
finds_renew (Some (expiry.Create span)) = false
finds_renew (Some (expiry.Read span)) = true
finds_renew (Some (expiry.Write span)) = false

abbrev pub found : Moment → List Value → Table → Table
found moment key table = if finds_renew table.expiry then renew moment key table else table

abbrev pub default_named : ℕ → List TableDefault → Option DefaultValue
default_named number defaults = option_map (λ one. one.default) (find (λ one. one.object == number) defaults)

-- the `&default` of the table that a value names
abbrev pub default_of : Value → World → Option DefaultValue
default_of (plain.Object number) world = default_named number.0 world.defaults
default_of value world = None

-- an absent key gives the default, which isn't inserted
abbrev pub absent : Place → Option DefaultValue → Does Value
absent place None = fault NoIndex place
absent place (Some default) = default_value place default

abbrev pub entry_value : Place → Value → Option Entry → Does Value
entry_value place value (Some entry) = pure entry.value
entry_value place value None = read (default_of value) >>= absent place

-- `t[k]`
abbrev pub element : Place → Value → List Value → Does Value
element place value key = do
  table ← table place value
  moment ← now
  set_table value (found moment key table)
  entry_value place value (entry_at key table.entries)

-- `k in t`
abbrev pub has_key : Place → Value → List Value → Does Value
has_key place value key = do
  table ← table place value
  moment ← now
  set_table value (found moment key table)
  pure (plain.Bool (is_some (entry_at key table.entries)))

-- a table is changed at the moment
abbrev pub change_table : Place → Value → (Moment → Table → Table) → Does (Unit {0})
change_table place value changed = do
  table ← table place value
  moment ← now
  set_table value (changed moment table)

abbrev pub set_element : Place → Value → List Value → Value → Does (Unit {0})
set_element place value key element = change_table place value (λ moment. insert moment key element)

abbrev pub delete_key : Place → Value → List Value → Does (Unit {0})
delete_key place value key = change_table place value (λ moment. remove key)

-- a member of a set, whose entry has the value T
abbrev pub add_member : Moment → Table → List Value → Table
add_member moment table key = insert moment key (plain.Bool true) table

abbrev pub keys_of : Table → List (List Value)
keys_of table = map (λ entry. entry.key) table.entries

-- the members of one set come into another, or leave it
abbrev pub add_all : Place → Value → Table → Does (Unit {0})
add_all place value members = change_table place value (λ moment table. fold (add_member moment) table (keys_of members))

abbrev pub remove_all : Place → Value → Table → Does (Unit {0})
remove_all place value members = change_table place value (λ moment table. fold (λ left key. remove key left) table (keys_of members))

-- values in groups of so many
abbrev pub groups_to : ℕ → ℕ → List Value → List (List Value)
groups_to zero size values = []
groups_to (suc most) size values = take size values ∷ groups_to most size (drop size values)

abbrev pub groups : ℕ → List Value → List (List Value)
groups size values = groups_to (length values / size) size values

-- a group of a table's operands is a key and a value behind it
abbrev pub with_pair : ℕ → Moment → Table → List Value → Table
with_pair keys moment table group = fold (λ filled value. insert moment (take keys group) value filled) table (drop keys group)

abbrev pub keep_default : Option DefaultValue → Value → Does Value
keep_default (Some default) (plain.Object number) =
    change (λ world. with_defaults (world.defaults ++ record { object = number.0; default = default } ∷ []) world) >> pure (plain.Object number)
keep_default default value = pure value

-- a new set of these members, one after another
abbrev pub new_set : Shape → List Value → Does Value
new_set shape values = do
  moment ← now
  new_object (object.Table (fold (add_member moment) (empty_table shape.expiry) (groups shape.keys values))) >>= keep_default shape.default

-- a new table of these entries, one after another
abbrev pub new_table : Shape → List Value → Does Value
new_table shape values = do
  moment ← now
  new_object (object.Table (fold (with_pair shape.keys moment) (empty_table shape.expiry) (groups (shape.keys + 1) values))) >>= keep_default shape.default

-- Vectors ----------------------------------------------------------------------------------------------------------

abbrev pub vector_in : Place → Object → Does (List Value)
vector_in place (object.Vector items) = pure items
vector_in place other = misfit place

abbrev pub vector : Place → Value → Does (List Value)
vector place value = object place value >>= vector_in place

-- `v[n]`
abbrev pub item : Place → Value → Value → Does Value
item place value (plain.Count index) = do
  items ← vector place value
  or_fault NoIndex place (slice_get items index)
item place value index = misfit place

-- an index at the length appends
abbrev pub with_item : Place → List Value → ℕ → Value → Does (List Value)
with_item place items index item =
    if nat_lt index (length items) then pure (slice_set items index item)
    else (if index == length items then pure (items ++ item ∷ []) else fault NoIndex place)

abbrev pub set_item : Place → Value → Value → Value → Does (Unit {0})
set_item place value (plain.Count index) item = do
  items ← vector place value
  changed ← with_item place items index item
  set_object value (object.Vector changed)
set_item place value index item = misfit place

-- Records ----------------------------------------------------------------------------------------------------------

abbrev pub fields_in : Place → Object → Does (List (Option Value))
fields_in place (object.Record number fields) = pure fields
fields_in place other = misfit place

abbrev pub fields : Place → Value → Does (List (Option Value))
fields place value = object place value >>= fields_in place

-- the value of a field by its number, where it has one
abbrev pub in_field : ℕ → List (Option Value) → Option Value
in_field number fields = joined (slice_get fields number)
  where
    joined : Option (Option Value) → Option Value
    joined None = None
    joined (Some value) = value

-- `r$f`
abbrev pub field : Place → Value → ℕ → Does Value
field place value number = do
  fields ← fields place value
  or_fault NoField place (in_field number fields)

-- `r?$f`
abbrev pub has_field : Place → Value → ℕ → Does Value
has_field place value number = do
  fields ← fields place value
  pure (plain.Bool (is_some (in_field number fields)))

abbrev pub with_field : ℕ → Value → Object → Object
with_field number value (object.Record of fields) = object.Record of (slice_set fields number (Some value))
with_field number value other = other

abbrev pub set_field : Place → Value → ℕ → Value → Does (Unit {0})
set_field place record_value number value = do
  changed ← object place record_value
  set_object record_value (with_field number value changed)

-- a field that a constructor gives, with its number
abbrev pub Given : Type 0
Given = ℕ × Value

abbrev pub given_at : ℕ → List Given → Option Value
given_at number given = option_map (λ one. one.1) (find (λ one. one.0 == number) given)

-- what a field begins with that isn't given
abbrev pub not_given : Place → Option DefaultValue → Does (Option Value)
not_given place None = pure None
not_given place (Some default) = default_value place default >>= (λ value. pure (Some value))

abbrev pub first_value : Place → Field → Option Value → Does (Option Value)
first_value place field (Some value) = pure (Some value)
first_value place field None = not_given place field.begins

abbrev pub first_values : Place → List Given → ℕ → List Field → Does (List (Option Value))
first_values place given number [] = pure []
first_values place given number (field ∷ fields) = do
  value ← first_value place field (given_at number given)
  others ← first_values place given (number + 1) fields
  pure (value ∷ others)

-- `R($f=x, ..)`
abbrev pub new_record : Place → RecordNo → List Field → List Given → Does Value
new_record place number fields given = do
  values ← first_values place given 0 fields
  new_object (object.Record number values)

-- Sizes and copies -------------------------------------------------------------------------------------------------

abbrev pub object_size : Object → ℕ
object_size (object.Record of fields) = 0
object_size (object.Vector items) = length items
object_size (object.Table table) = length table.entries

-- `|x|`: the bytes of a string, the entries or items of a container, and an int without its sign
abbrev pub size : Place → Value → Does Value
size place (plain.String bytes) = pure (plain.Count (length bytes))
size place (plain.Int n) = pure (plain.Count (nat_abs n))
size place (plain.Object number) = object place (plain.Object number) >>= (λ one. pure (plain.Count (object_size one)))
size place value = misfit place

abbrev pub each_copied : (Value → Does Value) → List Value → Does (List Value)
each_copied copied [] = pure []
each_copied copied (value ∷ values) = do
  first ← copied value
  others ← each_copied copied values
  pure (first ∷ others)

abbrev pub field_copied : (Value → Does Value) → Option Value → Does (Option Value)
field_copied copied None = pure None
field_copied copied (Some value) = copied value >>= (λ one. pure (Some one))

abbrev pub fields_copied : (Value → Does Value) → List (Option Value) → Does (List (Option Value))
fields_copied copied [] = pure []
fields_copied copied (value ∷ values) = do
  first ← field_copied copied value
  others ← fields_copied copied values
  pure (first ∷ others)

-- the entries of a table, with their values copied, in a table without an expiry
abbrev pub entries_copied : (Value → Does Value) → Table → List Entry → Does Table
entries_copied copied table [] = pure table
entries_copied copied table (entry ∷ entries) = do
  value ← copied entry.value
  moment ← now
  entries_copied copied (insert moment entry.key value table) entries

-- a copy of an object, which costs a unit; a table keeps its `&default`
abbrev pub object_copied : (Value → Does Value) → Option DefaultValue → Object → Does Value
object_copied copied default (object.Record number fields) = fields_copied copied fields >>= (λ values. new_object (object.Record number values))
object_copied copied default (object.Vector items) = each_copied copied items >>= (λ values. new_object (object.Vector values))
object_copied copied default (object.Table table) =
    entries_copied copied (empty_table None) table.entries >>= (λ one. new_object (object.Table one) >>= keep_default default)

-- to a depth of objects within one another; no type nests deeper than 200
abbrev pub copied_to : ℕ → Place → Value → Does Value
copied_to zero place value = misfit place
copied_to (suc depth) place (plain.Object number) = do
  tick place
  one ← object place (plain.Object number)
  default ← read (default_of (plain.Object number))
  object_copied (copied_to depth place) default one
copied_to (suc depth) place value = pure value

-- `copy(x)`
abbrev pub copy : Place → Value → Does Value
copy = copied_to 201
