-- The fields of record types, as the definitions see them.
use Rattle.std.specs.Prelude.{ℕ, ◌-◌, List, [], map, filter, Option, Some, None, Ok, slice_get, if◌then◌else◌}
use Rattle.std.specs.Option.{option_copied, option_map}
use Rattle.zk_tree.specs.declared.decl.Decl.{Decl, out-Decl}
use Rattle.zk_tree.specs.declared.decl.Decl.TheOpen.{Decl-F}
use Rattle.zk_tree.specs.declared.decl.Decl.TheOpen as decl
use Rattle.zk_typed.specs.Checked.{Checked, elsewhere}
use Rattle.zk_typed.specs.LoadOrder.{Home, Stated}
use Rattle.zk_typed.specs.Names.{Node, RecordNode, EnumNode, is_record}
use Rattle.zk_typed.specs.Predefined.{is_optional, record_no, record_types}
use Rattle.zk_typed.specs.Resolving.{FieldInfo, Scripts, is_that, known_field, no_home, type_named, written_field}
use Rattle.zk_typed.specs.Types.{ValueType, Simple, Record}
use Rattle.zk_typed.specs.View.{type_of}
use Rattle.zk_scope.specs.Lent.{home_of}
use Rattle.zk_scope.specs.declared.field.FieldInfo.{FieldInfo as LentField}
use Rattle.zk_scope.specs.declared.predefined.KnownField.{KnownField as LentKnown}
use Rattle.zk_scope.specs.declared.predefined.KnownType.{KnownType}
use Rattle.zk_scope.specs.declared.predefined.KnownType.TheVariants as known

-- a type that isn't there is broken elsewhere
abbrev pub known_or : Option ValueType → Checked ValueType
known_or None = elsewhere
known_or (Some one) = Ok one

abbrev pub field_of : LentField → FieldInfo
field_of field = record {
  name = field.name.now;
  field_type = known_or (option_map type_of field.field_type);
  log = field.log;
  wire = field.wire;
  optional = field.optional;
  default = option_copied field.default;
  home = home_of field.home;
}

-- a field that is found, with its number
abbrev pub field_found : ℕ × LentField → ℕ × FieldInfo
field_found one = (one.0, field_of one.1)

abbrev pub fields_lent : List LentField → List FieldInfo
fields_lent fields = map field_of fields

-- a predefined field
abbrev pub known_of : LentKnown → FieldInfo
known_of field = record {
  name = field.name.now;
  field_type = Ok (known_type field.field_type);
  log = field.log;
  wire = field.wire;
  optional = is_optional field.name.now;
  default = None;
  home = no_home;
}
  where
    known_type : KnownType → ValueType
    known_type (known.Simple simple) = Simple simple
    known_type (known.Record number) = Record (record_no number)

abbrev pub known_lent : List LentKnown → List FieldInfo
known_lent fields = map known_of fields

-- the fields that stand in the text of a record type
abbrev pub node_fields : Scripts → Option Node → List FieldInfo
node_fields scripts None = []
node_fields scripts (Some (RecordNode home place fields)) = map (written_field scripts home) fields
node_fields scripts (Some (EnumNode home place words)) = []

-- the fields that stand in a record type's own text, by its predefined fields
abbrev pub own_of : Scripts → ℕ → Option (List FieldInfo) → List FieldInfo
own_of scripts number (Some fields) = fields
own_of scripts number None = node_fields scripts (slice_get (filter is_record scripts.nodes) (number - 8))

-- the predefined fields of a record type
abbrev pub predefined_fields : ℕ → Option (List FieldInfo)
predefined_fields number = option_map (λ one. map known_field one.fields) (slice_get record_types number)

-- the fields that a declaration adds to a record type
abbrev pub decl_fields : Scripts → ℕ → Home → Decl-F Decl → List FieldInfo
decl_fields scripts number home (decl.RedefRecord place name fields) =
    if is_that number (type_named scripts home name) then map (written_field scripts home) fields else []
decl_fields scripts number home other = []

abbrev pub stated_fields : Scripts → ℕ → Stated → List FieldInfo
stated_fields scripts number one = decl_fields scripts number one.home (out-Decl one.decl)
