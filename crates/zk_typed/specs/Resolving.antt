-- What the names in types stand for, and what each declaration declares.
use Rattle.std.specs.Prelude.{ℕ, zero, suc, ◌-◌, ◌==◌, Bool, true, false, ◌||◌, List, [], ◌++◌, length, map, find, filter, flat_map, codes, Option, Some, None, Ok, Err, slice_get, if◌then◌else◌}
use Rattle.std.specs.List.{list_any}
use Rattle.std.specs.Str.{bytes_eq}
use Rattle.zk_tree.specs.declared.decl.Decl.{Decl, out-Decl}
use Rattle.zk_tree.specs.declared.decl.Decl.TheOpen.{Decl-F}
use Rattle.zk_tree.specs.declared.decl.Decl.TheOpen as decl
use Rattle.zk_tree.specs.declared.expr.Expr.{Expr}
use Rattle.zk_tree.specs.declared.name.Name.{Name}
use Rattle.zk_tree.specs.declared.place.Place.{Place}
use Rattle.zk_tree.specs.declared.types.Atomic.{Atomic}
use Rattle.zk_tree.specs.declared.types.Atomic.TheVariants as atomic
use Rattle.zk_tree.specs.declared.types.Attr.{Attr}
use Rattle.zk_tree.specs.declared.types.Field.{Field, out-Field}
use Rattle.zk_tree.specs.declared.types.Param.{Param, out-Param}
use Rattle.zk_tree.specs.declared.types.Type.{«Type», out-Type}
use Rattle.zk_tree.specs.declared.types.Type.TheOpen.{Type-F}
use Rattle.zk_tree.specs.declared.types.Type.TheOpen as written
use Rattle.zk_tree.specs.Places.{type_place}
use Rattle.zk_typed.specs.declared.rule.Rule.TheVariants.{Unknown, WrongType, Recursive}
use Rattle.zk_typed.specs.declared.script.types.SimpleType.{SimpleType}
use Rattle.zk_typed.specs.declared.script.types.SimpleType.TheVariants as simple
use Rattle.zk_typed.specs.Checked.{Checked, broken, elsewhere, ◌>>=◌, both, each}
use Rattle.zk_typed.specs.LoadOrder.{Home, Stated}
use Rattle.zk_typed.specs.Names.{Declared, Meant, KnownType, WrittenType, Signature, Known, Written, Node, RecordNode, EnumNode, look_up, is_record, record_number, enum_number}
use Rattle.zk_typed.specs.Predefined as predefined
use Rattle.zk_typed.specs.Predefined.{record_no}
use Rattle.zk_typed.specs.Types.{ValueType, Simple, Record, Table, Set, Vector}
use Rattle.zk_typed.specs.Program.{Field as KnownField, RecordType}
use Rattle.zk_typed.specs.Checked.{Broken}
use Rattle.zk_typed.specs.Within.{mentions}
use Rattle.zk_typed.specs.declared.rule.Rule.{Rule}

-- what all scripts declare: the declarations in load order, their record types and enums, and their names
pub record Scripts : Type 0 where
  pub stated : List Stated
  pub nodes : List Node
  pub names : List Declared

abbrev pub place_in : Home → ℕ → Place
place_in home byte = record { file = home.file; byte = byte }

abbrev pub meaning : Scripts → Home → List ℕ → Option Meant
meaning scripts home name = of_declared (look_up scripts.names home.module_name name)
  where
    of_declared : Option Declared → Option Meant
    of_declared None = None
    of_declared (Some one) = Some one.meant

-- Types ------------------------------------------------------------------------------------------------------------

abbrev pub simple_of : Atomic → SimpleType
simple_of atomic.Bool = simple.Bool
simple_of atomic.Count = simple.Count
simple_of atomic.Int = simple.Int
simple_of atomic.String = simple.String
simple_of atomic.Time = simple.Time
simple_of atomic.Interval = simple.Interval
simple_of atomic.Addr = simple.Addr
simple_of atomic.Port = simple.Port
simple_of atomic.Subnet = simple.Subnet

-- what a type rests on elsewhere is told there
abbrev pub hushed : {A : Type 0} → Checked A → Checked A
hushed (Ok a) = Ok a
hushed (Err rules) = elsewhere

-- a name leads to a declared type: it is its name, or that of a type which mentions a name that leads there
abbrev pub leads_by : (Home → Name → Bool) → List ℕ → Option Declared → Bool
leads_by leads target None = false
leads_by leads target (Some one) = bytes_eq one.name target || of_meant one.meant
  where
    of_meant : Meant → Bool
    of_meant (WrittenType other tree) = list_any (leads other) (mentions tree)
    of_meant other = false

abbrev pub leads_to : ℕ → Scripts → List ℕ → Home → Name → Bool
leads_to zero scripts target home name = false
leads_to (suc most) scripts target home name = leads_by (leads_to most scripts target) target (look_up scripts.names home.module_name name.text)

-- by way of as many types as there are
abbrev pub leads : Scripts → List ℕ → Home → Name → Bool
leads scripts = leads_to (suc (length scripts.names)) scripts

abbrev pub as_key : Place → ValueType → Checked SimpleType
as_key place (Simple one) = Ok one
as_key place other = broken WrongType place

-- a type that nests too deep by way of a name is told at the name; what else is broken behind it is told there
abbrev pub is_deep : Broken → Bool
is_deep one = is_mark one.rule
  where
    is_mark : Rule → Bool
    is_mark Recursive = true
    is_mark other = false

abbrev pub unless_deep : Place → Checked ValueType → Checked ValueType
unless_deep place (Ok type) = Ok type
unless_deep place (Err rules) = if list_any is_deep rules then broken Recursive place else elsewhere

-- the type of a name: that of another declaration is told there
abbrev pub named_type : (Home → «Type» → Checked ValueType) → Scripts → Place → Option Declared → Checked ValueType
named_type check scripts place None = broken Unknown place
named_type check scripts place (Some one) = of_meant one.meant
  where
    of_meant : Meant → Checked ValueType
    of_meant (KnownType type) = Ok type
    of_meant (WrittenType home tree) = elim (list_any (leads scripts one.name home) (mentions tree)) [
      | true ↦ elsewhere
      | false ↦ unless_deep place (check home tree)
    ]
    of_meant other = broken WrongType place

-- the text that a name stands for, with where it stands
abbrev pub next_text : Scripts → Home → «Type» → Option (Home × «Type»)
next_text scripts home tree = of_form (out-Type tree)
  where
    of_meant : Option Meant → Option (Home × «Type»)
    of_meant (Some (WrittenType other inner)) = Some (other, inner)
    of_meant other = None

    of_form : Type-F «Type» Field Param → Option (Home × «Type»)
    of_form (written.Named name) = of_meant (meaning scripts home name.text)
    of_form other = None

-- a text, with the names followed that stand for others, by way of so many at most
abbrev pub followed_to : ℕ → Scripts → Home → «Type» → Option (Home × «Type»)
followed_to zero scripts home tree = None
followed_to (suc most) scripts home tree = of_next (followed_to most scripts) (next_text scripts home tree)
  where
    of_next : (Home → «Type» → Option (Home × «Type»)) → Option (Home × «Type») → Option (Home × «Type»)
    of_next follow None = Some (home, tree)
    of_next follow (Some next) = follow next.0 next.1

-- by way of as many as there are; there is none where names stand for each other
abbrev pub followed : Scripts → Home → «Type» → Option (Home × «Type»)
followed scripts = followed_to (suc (length scripts.names)) scripts

-- a name that stands for no text
abbrev pub known_type : Place → Option Declared → Checked ValueType
known_type place None = broken Unknown place
known_type place (Some one) = of_meant one.meant
  where
    of_meant : Meant → Checked ValueType
    of_meant (KnownType type) = Ok type
    of_meant (WrittenType home tree) = elsewhere
    of_meant other = broken WrongType place

-- A type by its form and the types of its parts. Keys are atomic or enums, and a type of events, hooks or functions is no type
-- of values.
abbrev pub formed : (Home → «Type» → Checked ValueType) → Scripts → Home → «Type» → Checked ValueType
formed check scripts home tree = of_form (out-Type tree)
  where
    key : «Type» → Checked SimpleType
    key one = check home one >>= as_key (place_in home (type_place one))

    of_form : Type-F «Type» Field Param → Checked ValueType
    of_form (written.Atomic place atomic) = Ok (Simple (simple_of atomic))
    of_form (written.Named name) = known_type (place_in home name.place) (look_up scripts.names home.module_name name.text)
    of_form (written.Table place keys value) = both (each key keys) (check home value) >>= (λ parts. Ok (Table parts.0 parts.1))
    of_form (written.Set place keys) = each key keys >>= (λ parts. Ok (Set parts))
    of_form (written.Vector place item) = check home item >>= (λ part. Ok (Vector part))
    of_form (written.Record place fields) = Ok (Record (record_no (record_number scripts.nodes home.file place)))
    of_form (written.Enum place words comma) = Ok (Simple (simple.Enum (enum_number scripts.nodes home.file place)))
    of_form other = broken WrongType (place_in home (type_place tree))

-- the type of a text with the names in front of it followed
abbrev pub behind_names : (Home → «Type» → Checked ValueType) → Scripts → Home → «Type» → Checked ValueType
behind_names check scripts home tree = of_end (followed scripts home tree)
  where
    of_end : Option (Home × «Type») → Checked ValueType
    of_end None = elsewhere
    of_end (Some end) = formed check scripts end.0 end.1

-- the type of a name, by those of the parts of what it stands for
abbrev pub type_of_name : (Home → «Type» → Checked ValueType) → Scripts → Home → Name → Checked ValueType
type_of_name check scripts home name = named_type (behind_names check scripts) scripts (place_in home name.place) (look_up scripts.names home.module_name name.text)

-- A type whose parts nest at most so deep. A name is no level: what it stands for is.
abbrev pub type_to : ℕ → Scripts → Home → «Type» → Checked ValueType
type_to zero scripts home tree = broken Recursive (place_in home (type_place tree))
type_to (suc depth) scripts home tree = of_form (type_to depth scripts) (out-Type tree)
  where
    of_form : (Home → «Type» → Checked ValueType) → Type-F «Type» Field Param → Checked ValueType
    of_form check (written.Named name) = type_of_name check scripts home name
    of_form check other = formed check scripts home tree

-- no type nests deeper than 200
abbrev pub type_of : Scripts → Home → «Type» → Checked ValueType
type_of = type_to 200

abbrev pub maybe_type : Scripts → Home → Option «Type» → Checked (Option ValueType)
maybe_type scripts home None = Ok None
maybe_type scripts home (Some tree) = type_of scripts home tree >>= (λ type. Ok (Some type))

-- Signatures -------------------------------------------------------------------------------------------------------

abbrev pub params_of : Scripts → Signature → Checked (List ValueType)
params_of scripts (Known params) = Ok params
params_of scripts (Written home params «result») = hushed (each (λ param. type_of scripts home (out-Param param).param_type) params)

abbrev pub result_of : Scripts → Signature → Checked (Option ValueType)
result_of scripts (Known params) = Ok None
result_of scripts (Written home params «result») = hushed (maybe_type scripts home «result»)

-- Fields -----------------------------------------------------------------------------------------------------------

-- a field of a record type, with the place where its text stands
pub record FieldInfo : Type 0 where
  pub name : List ℕ
  pub field_type : Checked ValueType
  pub log : Bool
  pub wire : Bool
  pub optional : Bool
  pub default : Option Expr
  pub home : Home

abbrev pub has_attr : List ℕ → List Attr → Bool
has_attr name attrs = list_any (λ attr. bytes_eq attr.name name) attrs

-- the value of an attribute
abbrev pub attr_value : List ℕ → List Attr → Option Expr
attr_value name attrs = of_attr (find (λ attr. bytes_eq attr.name name) attrs)
  where
    of_attr : Option Attr → Option Expr
    of_attr None = None
    of_attr (Some attr) = attr.value

abbrev pub written_field : Scripts → Home → Field → FieldInfo
written_field scripts home field = record {
  name = (out-Field field).name.text;
  field_type = hushed (type_of scripts home (out-Field field).field_type);
  log = has_attr (codes "log") (out-Field field).attrs;
  wire = has_attr (codes "wire") (out-Field field).attrs;
  optional = has_attr (codes "optional") (out-Field field).attrs;
  default = attr_value (codes "default") (out-Field field).attrs;
  home = home;
}

abbrev pub no_home : Home
no_home = record { file = 0; module_name = []; exported = true }

abbrev pub known_field : KnownField → FieldInfo
known_field field = record {
  name = field.name;
  field_type = Ok field.field_type;
  log = field.log;
  wire = field.wire;
  optional = predefined.is_optional field.name;
  default = None;
  home = no_home;
}

-- the fields that stand in a record type's own text
abbrev pub own_fields : Scripts → ℕ → List FieldInfo
own_fields scripts number = known (slice_get predefined.record_types number)
  where
    of_node : Option Node → List FieldInfo
    of_node None = []
    of_node (Some (RecordNode home place fields)) = map (written_field scripts home) fields
    of_node (Some (EnumNode home place words)) = []

    known : Option RecordType → List FieldInfo
    known (Some one) = map known_field one.fields
    known None = of_node (slice_get (filter is_record scripts.nodes) (number - length predefined.record_types))

abbrev pub is_that : ℕ → Checked ValueType → Bool
is_that number (Ok (Record other)) = other.0 == number
is_that number other = false

-- the type that a declaration of a record or an enum names
abbrev pub type_named : Scripts → Home → Name → Checked ValueType
type_named scripts = type_of_name (type_to 199 scripts) scripts

-- the fields that `redef record` adds to a record type, in load order
abbrev pub added_fields : Scripts → ℕ → List FieldInfo
added_fields scripts number = flat_map (λ one. in_decl one.home (out-Decl one.decl)) scripts.stated
  where
    in_decl : Home → Decl-F Decl → List FieldInfo
    in_decl home (decl.RedefRecord place name fields) =
        if is_that number (type_named scripts home name) then map (written_field scripts home) fields else []
    in_decl home other = []

abbrev pub fields_of : Scripts → ℕ → List FieldInfo
fields_of scripts number = own_fields scripts number ++ added_fields scripts number

-- the parts of a type nest deeper than so many
abbrev pub deeper : ℕ → Scripts → ValueType → Bool
deeper zero scripts one = true
deeper (suc most) scripts one = of_type (deeper most scripts) one
  where
    of_field : (ValueType → Bool) → Checked ValueType → Bool
    of_field more (Ok one) = more one
    of_field more (Err rules) = false

    of_type : (ValueType → Bool) → ValueType → Bool
    of_type more (Simple one) = false
    of_type more (Set keys) = false
    of_type more (Table keys value) = more value
    of_type more (Vector item) = more item
    of_type more (Record number) = list_any (λ field. of_field more field.field_type) (fields_of scripts number.0)
