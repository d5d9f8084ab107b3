-- The names that scripts declare, and what a name means at a place (Zeek manual, Script Organization, modules).
use Rattle.std.specs.Prelude.{ℕ, suc, ◌+◌, ◌==◌, Bool, true, false, not, ◌&&◌, ◌||◌, List, [], ◌∷◌, ◌++◌, length, find, filter, map, flat_map, codes, nat_eq, Option, Some, None, is_some, if◌then◌else◌}
use Rattle.std.specs.List.{starts_with}
use Rattle.std.specs.Option.{option_map, unwrap_or}
use Rattle.std.specs.Str.{bytes_eq}
use Rattle.zk_tree.specs.declared.decl.Decl.{Decl, out-Decl}
use Rattle.zk_tree.specs.declared.decl.Decl.TheOpen.{Decl-F}
use Rattle.zk_tree.specs.declared.decl.Decl.TheOpen as decl
use Rattle.zk_tree.specs.declared.decl.Lasting.{Lasting}
use Rattle.zk_tree.specs.declared.name.Name.{Name}
use Rattle.zk_tree.specs.declared.stmt.Init.{Init}
use Rattle.zk_tree.specs.declared.types.Attr.{Attr}
use Rattle.zk_tree.specs.declared.types.Field.{Field, out-Field}
use Rattle.zk_tree.specs.declared.types.Param.{Param, out-Param}
use Rattle.zk_tree.specs.declared.types.Type.{«Type», out-Type}
use Rattle.zk_tree.specs.declared.types.Type.TheOpen.{Type-F}
use Rattle.zk_tree.specs.declared.types.Type.TheOpen as written
use Rattle.zk_typed.specs.declared.script.primitive.BuiltIn.{BuiltIn}
use Rattle.zk_typed.specs.LoadOrder.{Home, Stated}
use Rattle.zk_typed.specs.Predefined as predefined
use Rattle.zk_typed.specs.Types.{ValueType}
use Rattle.zk_typed.specs.Within.{within, local_types, maybe_one}

-- What names mean --------------------------------------------------------------------------------------------------

-- the parameters and the result of an event, a hook or a function
pub data Signature : Type 0 where
  Known : (params : List ValueType) → Signature
  Written : (home : Home) (params : List Param) (result : Option «Type») → Signature

-- a function of the log framework
pub data LogFunction : Type 0 where
  CreateStream : LogFunction
  AddFilter : LogFunction
  RemoveFilter : LogFunction
  RemoveDefaultFilter : LogFunction
  Write : LogFunction

pub data Meant : Type 0 where
  KnownType : (type : ValueType) → Meant
  WrittenType : (home : Home) (tree : «Type») → Meant
  -- a word of the enum of this number
  Word : (number : ℕ) → Meant
  -- a global or a constant
  Variable : (home : Home) (lasting : Lasting) (tree : Option «Type») (init : Option Init) (attrs : List Attr) → Meant
  Event : (signature : Signature) → Meant
  Hook : (signature : Signature) → Meant
  Function : (signature : Signature) → Meant
  BuiltInFunction : (function : BuiltIn) → Meant
  Log : (function : LogFunction) → Meant

-- a name, whether it is seen outside its module, and what it means
pub record Declared : Type 0 where
  pub name : List ℕ
  pub exported : Bool
  pub meant : Meant

-- Names and modules ------------------------------------------------------------------------------------------------

abbrev pub first_of : {A : Type 0} → Option A → Option A → Option A
first_of (Some a) b = Some a
first_of None b = b

-- the part before the last `::`, where the name has one: a module's own name may have one
abbrev pub module_in : List ℕ → Option (List ℕ)
module_in [] = None
module_in (byte ∷ bytes) =
    first_of (option_map (λ front. byte ∷ front) (module_in bytes)) (if starts_with nat_eq (byte ∷ bytes) (codes "::") then Some [] else None)

abbrev pub with_module : List ℕ → List ℕ → List ℕ
with_module [] name = name
with_module (byte ∷ bytes) name = (byte ∷ bytes) ++ codes "::" ++ name

-- the whole name of a name that is declared in a module
abbrev pub whole_name : List ℕ → List ℕ → List ℕ
whole_name module_name name = if is_some (module_in name) then name else with_module module_name name

-- the module of a name, which is empty for none
abbrev pub module_of : List ℕ → List ℕ
module_of name = unwrap_or (module_in name) []

abbrev pub declare : Home → Name → Meant → Declared
declare home name meant = record { name = whole_name home.module_name name.text; exported = home.exported; meant = meant }

-- a name of no module is seen everywhere, and one that isn't exported in its own module alone
abbrev pub is_open : List ℕ → List ℕ → Bool
is_open from_module whole = bytes_eq (module_of whole) [] || bytes_eq (module_of whole) from_module

abbrev pub find_whole : List Declared → List ℕ → List ℕ → Option Declared
find_whole names from_module whole = find (λ one. bytes_eq one.name whole && (one.exported || is_open from_module whole)) names

-- in a module, a name without `::` is one of the module, or else one of none
abbrev pub look_up : List Declared → List ℕ → List ℕ → Option Declared
look_up names from_module name =
    first_of (find_whole names from_module (whole_name from_module name)) (find_whole names from_module name)

-- Record types and enums in the texts ------------------------------------------------------------------------------

-- each `record {` and each `enum {` is a type of its own
pub data Node : Type 0 where
  RecordNode : (home : Home) (place : ℕ) (fields : List Field) → Node
  EnumNode : (home : Home) (place : ℕ) (words : List Name) → Node

abbrev pub node : Home → «Type» → List Node
node home tree = of_form (out-Type tree)
  where
    of_form : Type-F «Type» Field Param → List Node
    of_form (written.Record place fields) = RecordNode home place fields ∷ []
    of_form (written.Enum place words comma) = EnumNode home place words ∷ []
    of_form other = []

abbrev pub type_nodes : Home → «Type» → List Node
type_nodes home tree = flat_map (node home) (within tree)

abbrev pub field_types : List Field → List «Type»
field_types fields = map (λ field. (out-Field field).field_type) fields

abbrev pub param_types : List Param → List «Type»
param_types params = map (λ param. (out-Param param).param_type) params

-- the types that stand in a declaration
abbrev pub decl_types : Decl-F Decl → List «Type»
decl_types (decl.Variable place lasting name tree init attrs) = maybe_one tree
decl_types (decl.Type place name tree) = tree ∷ []
decl_types (decl.RedefRecord place name fields) = field_types fields
decl_types (decl.Body place kind name params attrs body) = param_types params ++ local_types body
decl_types (decl.Function place name params «result» body) = param_types params ++ (maybe_one «result» ++ local_types body)
decl_types other = []

abbrev pub decl_nodes : Home → Decl-F Decl → List Node
decl_nodes home one = flat_map (type_nodes home) (decl_types one)

abbrev pub all_nodes : List Stated → List Node
all_nodes stated = flat_map (λ one. decl_nodes one.home (out-Decl one.decl)) stated

abbrev pub is_record : Node → Bool
is_record (RecordNode home place fields) = true
is_record (EnumNode home place words) = false

abbrev pub is_at : ℕ → ℕ → Node → Bool
is_at file place (RecordNode home other fields) = home.file == file && other == place
is_at file place (EnumNode home other words) = home.file == file && other == place

-- how many come before the first that passes
abbrev pub count_before : {A : Type 0} → (A → Bool) → List A → ℕ
count_before passes [] = 0
count_before passes (one ∷ others) = elim (passes one) [ true ↦ 0 | false ↦ suc (count_before passes others) ]

-- the number of the record type, and of the enum, whose text begins at a place
abbrev pub record_number : List Node → ℕ → ℕ → ℕ
record_number nodes file place = length predefined.record_types + count_before (is_at file place) (filter is_record nodes)

abbrev pub enum_number : List Node → ℕ → ℕ → ℕ
enum_number nodes file place = predefined.enums + count_before (is_at file place) (filter (λ node. not (is_record node)) nodes)
