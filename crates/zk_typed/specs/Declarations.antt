-- The typing of declarations (Zeek manual, Declarations; Attributes).
use Rattle.std.specs.Prelude.{ℕ, zero, suc, Bool, true, false, not, ◌&&◌, ◌||◌, List, [], ◌∷◌, length, map, filter, flat_map, codes, Option, Some, None, Ok, Err, is_some, slice_get, if◌then◌else◌}
use Rattle.std.specs.List.{list_any, list_all}
use Rattle.std.specs.Str.{bytes_eq}
use Rattle.zk_base.specs.declared.network.Addr.TheVariants.{V4}
use Rattle.zk_tree.specs.declared.decl.Decl.{Decl, out-Decl}
use Rattle.zk_tree.specs.declared.decl.Decl.TheOpen.{Decl-F}
use Rattle.zk_tree.specs.declared.decl.Decl.TheOpen as decl
use Rattle.zk_tree.specs.declared.decl.Lasting.{Lasting}
use Rattle.zk_tree.specs.declared.decl.Redefining.{Redefining}
use Rattle.zk_tree.specs.declared.decl.Redefining.TheVariants as redefining
use Rattle.zk_tree.specs.declared.expr.Expr.{Expr, out-Expr}
use Rattle.zk_tree.specs.declared.expr.Expr.TheOpen.{Expr-F}
use Rattle.zk_tree.specs.declared.expr.Expr.TheOpen as written
use Rattle.zk_tree.specs.declared.expr.Item.{Item}
use Rattle.zk_tree.specs.declared.expr.Link.{Link}
use Rattle.zk_tree.specs.declared.expr.Literal.{Literal}
use Rattle.zk_tree.specs.declared.expr.Literal.TheVariants as token
use Rattle.zk_tree.specs.declared.expr.Part.{Part}
use Rattle.zk_tree.specs.declared.name.Name.{Name}
use Rattle.zk_tree.specs.declared.operator.Container.{Container}
use Rattle.zk_tree.specs.declared.operator.Container.TheVariants as container
use Rattle.zk_tree.specs.declared.operator.Prefix.{Prefix}
use Rattle.zk_tree.specs.declared.operator.Prefix.TheVariants as prefix
use Rattle.zk_tree.specs.declared.place.Place.{Place}
use Rattle.zk_tree.specs.declared.stmt.Init.{Init}
use Rattle.zk_tree.specs.declared.stmt.Init.TheVariants as init
use Rattle.zk_tree.specs.declared.types.Attr.{Attr}
use Rattle.zk_tree.specs.declared.types.Field.{Field, out-Field}
use Rattle.zk_tree.specs.declared.types.Param.{Param, out-Param}
use Rattle.zk_tree.specs.declared.types.Type.{«Type», out-Type}
use Rattle.zk_tree.specs.declared.types.Type.TheOpen.{Type-F}
use Rattle.zk_tree.specs.declared.types.Type.TheOpen as tree
use Rattle.zk_tree.specs.Places.{type_place}
use Rattle.zk_typed.specs.declared.rule.Rule.TheVariants as rule
use Rattle.zk_typed.specs.declared.rule.Rule.{Rule}
use Rattle.zk_typed.specs.declared.script.literal.DefaultValue.{DefaultValue}
use Rattle.zk_typed.specs.declared.script.literal.DefaultValue.TheVariants as default
use Rattle.zk_typed.specs.declared.script.literal.Literal as value
use Rattle.zk_typed.specs.declared.script.literal.Literal.TheVariants as literal
use Rattle.zk_typed.specs.declared.script.literal.Sign.TheVariants.{Plain, Converted, Negated}
use Rattle.zk_typed.specs.declared.script.types.SimpleType.{SimpleType}
use Rattle.zk_typed.specs.declared.script.types.SimpleType.TheVariants as simple
use Rattle.zk_typed.specs.Checked.{Checked, Broken, broken, elsewhere, ◌>>=◌, ◌>>◌, both, each, require}
use Rattle.zk_typed.specs.Expressions.{expr_typed}
use Rattle.zk_typed.specs.LoadOrder.{Home, Stated}
use Rattle.zk_typed.specs.Names.{Declared, Meant, Variable, Function, Signature, whole_name, look_up}
use Rattle.zk_typed.specs.Operations.{same_type, same_simple}
use Rattle.zk_typed.specs.Predefined as type
use Rattle.zk_typed.specs.Resolving.{Scripts, place_in, type_of, deeper, leads, hushed, params_of, result_of}
use Rattle.zk_typed.specs.Statements.{init_typed}
use Rattle.zk_typed.specs.Types.{ValueType, Simple, Record, Table, Set, Vector}
use Rattle.zk_typed.specs.Typing.{Typed, Env, Nothing, Wants, expr_place, interval_of, is_variable}
use Rattle.zk_tree.specs.declared.operator.TimeUnit.{TimeUnit}
use Rattle.zk_tree.specs.Value as plain
use Rattle.zk_tree.specs.declared.decl.Lasting.TheVariants as lasting
use Rattle.zk_tree.specs.declared.stmt.Block.{Block}
use Rattle.zk_typed.specs.Within.{depth_max, local_types}

-- The types of globals ---------------------------------------------------------------------------------------------

-- What can't be told for globals that rest on each other's initial values is marked by a rule that no expression breaks.
abbrev pub circular : Checked ValueType
circular = broken rule.Recursive (record { file = 0; byte = 0 })

abbrev pub is_mark : Broken → Bool
is_mark one = of_rule one.rule
  where
    of_rule : Rule → Bool
    of_rule rule.Recursive = true
    of_rule other = false

abbrev pub is_circular : List Broken → Bool
is_circular = list_any is_mark

abbrev pub marked : Checked Typed → Checked ValueType
marked (Ok one) = Ok one.type
marked (Err rules) = if is_circular rules then circular else elsewhere

-- where an expression of no body stands
abbrev pub bodiless : Scripts → Home → (ℕ → Checked ValueType) → Env
bodiless scripts home global_type = record { scripts = scripts; home = home; locals = []; global_type = global_type }

abbrev pub variable_type : Scripts → (ℕ → Checked ValueType) → Option Declared → Checked ValueType
variable_type scripts others None = elsewhere
variable_type scripts others (Some one) = of_meant one.meant
  where
    of_meant : Meant → Checked ValueType
    of_meant (Variable home lasting (Some tree) init attrs) = hushed (type_of scripts home tree)
    of_meant (Variable home lasting None (Some init) attrs) = marked (init_typed (bodiless scripts home others) Nothing init)
    of_meant other = elsewhere

abbrev pub variables : Scripts → List Declared
variables scripts = filter is_variable scripts.names

-- the type of a global or a constant, told by way of at most so many others
abbrev pub global_type_to : ℕ → Scripts → ℕ → Checked ValueType
global_type_to zero scripts number = circular
global_type_to (suc most) scripts number = variable_type scripts (global_type_to most scripts) (slice_get (variables scripts) number)

abbrev pub told_type : Scripts → ℕ → Checked ValueType
told_type scripts = global_type_to (suc (length (variables scripts))) scripts

abbrev pub global_type : Scripts → ℕ → Checked ValueType
global_type scripts number = hushed (told_type scripts number)

abbrev pub env_at : Scripts → Home → Env
env_at scripts home = bodiless scripts home (global_type scripts)

-- Literals ---------------------------------------------------------------------------------------------------------

-- a literal that an attribute takes, with its type
abbrev pub literal_of : Expr → Option (value.Literal × SimpleType)
literal_of one = of_form (out-Expr one)
  where
    of_interval : ℕ → TimeUnit → value.Literal
    of_interval number unit = of_value (interval_of number unit)
      where
        of_value : plain.Value → value.Literal
        of_value (plain.Interval span) = literal.Interval span
        of_value other = literal.Count number

    of_token : Literal → value.Literal × SimpleType
    of_token (token.String bytes) = (literal.String bytes, simple.String)
    of_token (token.Port port proto) = (literal.Port port proto, simple.Port)
    of_token (token.Address address) = (literal.Addr (V4 address), simple.Addr)
    of_token (token.Subnet prefix width) = (literal.Subnet prefix width, simple.Subnet)

    of_form : Expr-F Expr Item Part Link → Option (value.Literal × SimpleType)
    of_form (written.Number place number) = Some (literal.Count number, simple.Count)
    of_form (written.Interval place number unit plural) = Some (of_interval number unit, simple.Interval)
    of_form (written.Literal place one) = Some (of_token one)
    of_form (written.Truth place truth) = Some (literal.Bool truth, simple.Bool)
    of_form other = None

-- the operand of a minus sign
abbrev pub minus_operand : Expr → Option Expr
minus_operand one = of_form (out-Expr one)
  where
    of_prefix : Prefix → Expr → Option Expr
    of_prefix prefix.Negate operand = Some operand
    of_prefix other operand = None

    of_form : Expr-F Expr Item Part Link → Option Expr
    of_form (written.Unary place operator operand) = of_prefix operator operand
    of_form other = None

abbrev pub literal_default : Place → ValueType → value.Literal × SimpleType → Checked DefaultValue
literal_default place wanted one =
    if same_type wanted (Simple one.1) then Ok (default.Literal one.0 Plain)
    else (if same_type wanted type.int && same_simple one.1 simple.Count then Ok (default.Literal one.0 Converted) else broken rule.WrongType place)

abbrev pub negative_default : Place → ValueType → value.Literal × SimpleType → Checked DefaultValue
negative_default place wanted one =
    if (same_type wanted type.int && same_simple one.1 simple.Count) || (same_type wanted type.interval && same_simple one.1 simple.Interval)
    then Ok (default.Literal one.0 Negated) else broken rule.WrongType place

abbrev pub empty_container : Expr → Option Container
empty_container one = of_form (out-Expr one)
  where
    of_form : Expr-F Expr Item Part Link → Option Container
    of_form (written.Make place container []) = Some container
    of_form other = None

abbrev pub container_default : Place → ValueType → Container → Checked DefaultValue
container_default place (Table keys value) container.Table = Ok default.EmptyTable
container_default place (Set keys) container.Set = Ok default.EmptyTable
container_default place (Vector item) container.Vector = Ok default.EmptyVector
container_default place other made = broken rule.WrongType place

-- a literal with at most one minus sign, or an empty container
abbrev pub constant_typed : Env → ValueType → Expr → Checked DefaultValue
constant_typed env wanted one = of_literal (literal_of one)
  where
    place : Place
    place = expr_place env one

    of_container : Option Container → Checked DefaultValue
    of_container None = broken rule.NotConst place
    of_container (Some made) = container_default place wanted made

    of_negative : Option (value.Literal × SimpleType) → Checked DefaultValue
    of_negative None = broken rule.NotConst place
    of_negative (Some one) = negative_default place wanted one

    of_minus : Option Expr → Checked DefaultValue
    of_minus None = of_container (empty_container one)
    of_minus (Some operand) = of_negative (literal_of operand)

    of_literal : Option (value.Literal × SimpleType) → Checked DefaultValue
    of_literal None = of_minus (minus_operand one)
    of_literal (Some one) = literal_default place wanted one

-- the value of a `&default`, which keeps the rules of its expression first
abbrev pub default_typed : Env → ValueType → Expr → Checked DefaultValue
default_typed env wanted one = expr_typed env (Wants wanted) one >> constant_typed env wanted one

-- Attributes -------------------------------------------------------------------------------------------------------

abbrev pub is_one_of : List (List ℕ) → List ℕ → Bool
is_one_of names name = list_any (λ other. bytes_eq other name) names

abbrev pub is_expiry : List ℕ → Bool
is_expiry = is_one_of (codes "create_expire" ∷ codes "read_expire" ∷ codes "write_expire" ∷ [])

-- Attributes one by one: whether each may stand, not twice and beside no other expiry, and has a value exactly where it
-- should. The value of one that may stand is judged.
abbrev pub attr_rules : Home → (List ℕ → Bool) → (List ℕ → Bool) → (Attr → Checked (Unit {0})) → List (List ℕ) → List Attr → Checked (Unit {0})
attr_rules home allowed valued value_rules before [] = Ok tt
attr_rules home allowed valued value_rules before (attr ∷ attrs) =
    both (require (stands && fitting (valued attr.name) (is_some attr.value)) rule.Attribute (place_in home attr.place) >> value_rules attr)
    (attr_rules home allowed valued value_rules (attr.name ∷ before) attrs) >> Ok tt
  where
    stands : Bool
    stands = allowed attr.name && not (is_one_of before attr.name) && not (is_expiry attr.name && list_any is_expiry before)

    fitting : Bool → Bool → Bool
    fitting true given = given
    fitting false given = not given

abbrev pub with_value : List ℕ → Bool
with_value = is_one_of (codes "default" ∷ codes "create_expire" ∷ codes "read_expire" ∷ codes "write_expire" ∷ codes "expire_func" ∷ codes "priority" ∷ [])

-- a column can be of a type without parts, of a record, of a set of one key, and of a vector of such a type
abbrev pub is_column : ValueType → Bool
is_column (Simple one) = true
is_column (Record number) = true
is_column (Set (key ∷ [])) = true
is_column (Vector (Simple one)) = true
is_column other = false

abbrev pub field_attribute : ValueType → List ℕ → Bool
field_attribute one name =
    bytes_eq name (codes "optional") || bytes_eq name (codes "default") ||
    (bytes_eq name (codes "log") && is_column one) ||
    (bytes_eq name (codes "wire") && (same_type one type.count || same_type one type.string))

-- Types and their fields -------------------------------------------------------------------------------------------

abbrev pub nothing : {A : Type 0} → Checked A → Checked (Unit {0})
nothing one = one >> Ok tt

-- the value of a field's `&default`, the one attribute of fields that has one
abbrev pub field_default : Env → ValueType → Option Expr → Checked (Unit {0})
field_default env type None = Ok tt
field_default env type (Some one) = nothing (default_typed env type one)

abbrev pub field_rules : Scripts → Home → List (List ℕ) → Field → Checked (Unit {0})
field_rules scripts home before field =
    both (require (not (is_one_of before (out-Field field).name.text)) rule.Twice (place_in home (out-Field field).name.place))
    (type_of scripts home (out-Field field).field_type >>= (λ type.
    attr_rules home (field_attribute type) with_value (λ attr. field_default (env_at scripts home) type attr.value) [] (out-Field field).attrs)) >> Ok tt

abbrev pub fields_rules : (Home → List (List ℕ) → Field → Checked (Unit {0})) → Home → List (List ℕ) → List Field → Checked (Unit {0})
fields_rules rules home before [] = Ok tt
fields_rules rules home before (field ∷ fields) =
    both (rules home before field) (fields_rules rules home ((out-Field field).name.text ∷ before) fields) >> Ok tt

-- the record types within a type; one that nests too deep, as none does that a machine holds, is told
abbrev pub nested_to : ℕ → Scripts → Home → «Type» → Checked (Unit {0})
nested_to zero scripts home one = broken rule.Recursive (place_in home (type_place one))
nested_to (suc depth) scripts home one = of_form (nested_to depth scripts home) (out-Type one)
  where
    of_form : («Type» → Checked (Unit {0})) → Type-F «Type» Field Param → Checked (Unit {0})
    of_form nested (tree.Table place keys value) = nested value
    of_form nested (tree.Vector place item) = nested item
    of_form nested (tree.Record place fields) =
        fields_rules (λ home before field. nothing (both (field_rules scripts home before field) (nested (out-Field field).field_type))) home [] fields
    of_form nested other = Ok tt

-- fields that are added are no deeper than a record's may be
abbrev pub adds_well : Scripts → Stated → Bool
adds_well scripts one = of_decl (out-Decl one.decl)
  where
    fits : Checked ValueType → Bool
    fits (Ok type) = not (deeper 199 scripts type)
    fits (Err rules) = true

    of_decl : Decl-F Decl → Bool
    of_decl (decl.RedefRecord place name fields) = list_all (λ field. fits (type_of scripts one.home (out-Field field).field_type)) fields
    of_decl other = true

-- too deep without the fields that are told where they are added
abbrev pub is_too_deep : Scripts → ValueType → Bool
is_too_deep scripts = deeper 200 (record scripts { stated = filter (adds_well scripts) scripts.stated })

-- What there is within a type: it isn't too deep, and its record types keep their rules. What else is broken in it is told
-- where it is asked for.
abbrev pub parts_rules : (ValueType → Bool) → Scripts → Home → «Type» → Checked (Unit {0})
parts_rules too_deep scripts home one = nothing (both (of_type (type_of scripts home one)) (nested_to depth_max scripts home one))
  where
    of_type : Checked ValueType → Checked (Unit {0})
    of_type (Ok type) = require (not (too_deep type)) rule.Recursive (place_in home (type_place one))
    of_type (Err rules) = Ok tt

abbrev pub type_rules : Scripts → Home → «Type» → Checked (Unit {0})
type_rules scripts home one = nothing (both (type_of scripts home one) (parts_rules (is_too_deep scripts) scripts home one))

abbrev pub local_rules : Scripts → Home → Block → Checked (Unit {0})
local_rules scripts home block = nothing (each (parts_rules (is_too_deep scripts) scripts home) (local_types block))

abbrev pub maybe_rules : Scripts → Home → Option «Type» → Checked (Unit {0})
maybe_rules scripts home None = Ok tt
maybe_rules scripts home (Some one) = type_rules scripts home one

-- the parameters of a body or of a signature: their types, and no name twice
abbrev pub param_rules : Scripts → Home → List (List ℕ) → List Param → Checked (Unit {0})
param_rules scripts home before [] = Ok tt
param_rules scripts home before (param ∷ params) =
    both (both (require (not (is_one_of before (out-Param param).name.text)) rule.Twice (place_in home (out-Param param).name.place)) (type_rules scripts home (out-Param param).param_type))
    (param_rules scripts home ((out-Param param).name.text ∷ before) params) >> Ok tt

-- a declared type that leads back to itself is told where its text does
abbrev pub recursive_rules : Scripts → Home → List ℕ → List Name → Checked (Unit {0})
recursive_rules scripts home whole [] = Ok tt
recursive_rules scripts home whole (name ∷ names) =
    both (require (not (leads scripts whole home name)) rule.Recursive (place_in home name.place)) (recursive_rules scripts home whole names) >> Ok tt

-- Globals ----------------------------------------------------------------------------------------------------------

-- the values that a name is given, in load order: by its declaration and by `redef`
abbrev pub ValueGiven : Type 0
ValueGiven = Home × Redefining × Init

abbrev pub given_by : List ℕ → Scripts → Home → Decl-F Decl → List ValueGiven
given_by whole scripts home (decl.Variable place lasting name tree (Some init) attrs) =
    if bytes_eq (whole_name home.module_name name.text) whole then (home, redefining.Set, init) ∷ [] else []
given_by whole scripts home (decl.Redef place name operator init) = of_declared (look_up scripts.names home.module_name name.text)
  where
    of_declared : Option Declared → List ValueGiven
    of_declared None = []
    of_declared (Some one) = if bytes_eq one.name whole then (home, operator, init) ∷ [] else []
given_by whole scripts home other = []

abbrev pub values_of : Scripts → List ℕ → List ValueGiven
values_of scripts whole = flat_map (λ one. given_by whole scripts one.home (out-Decl one.decl)) scripts.stated

abbrev pub is_set : Redefining → Bool
is_set redefining.Set = true
is_set redefining.Add = false

abbrev pub is_made : Init → Bool
is_made (init.Braces place values comma) = true
is_made (init.Value one) = of_form (out-Expr one)
  where
    of_container : Container → Bool
    of_container container.Vector = false
    of_container other = true

    of_form : Expr-F Expr Item Part Link → Bool
    of_form (written.Make place container items) = of_container container
    of_form other = false

-- every `=` of a name makes a table or a set
abbrev pub only_made : Scripts → List ℕ → Bool
only_made scripts whole = list_all (λ one. not (is_set one.1) || is_made one.2) (values_of scripts whole)

abbrev pub is_table : ValueType → Bool
is_table (Table keys value) = true
is_table other = false

abbrev pub has_keys : ValueType → Bool
has_keys (Table keys value) = true
has_keys (Set keys) = true
has_keys other = false

abbrev pub global_attribute : Bool → ValueType → List ℕ → Bool
global_attribute made type name =
    bytes_eq name (codes "redef") ||
    (bytes_eq name (codes "default") && is_table type && made) ||
    ((is_expiry name || bytes_eq name (codes "expire_func")) && has_keys type && made)

abbrev pub const_attribute : List ℕ → Bool
const_attribute name = bytes_eq name (codes "redef")

abbrev pub allowed_in : Lasting → Bool → ValueType → List ℕ → Bool
allowed_in lasting.Global made type = global_attribute made type
allowed_in lasting.Const made type = const_attribute

-- an expiry is a literal interval
abbrev pub expiry_value : Env → Expr → Checked DefaultValue
expiry_value env one = default_typed env type.interval one

-- the function of `&expire_func` takes the table and the values of a key, and gives an interval
abbrev pub expire_func_value : Env → ValueType → Expr → Checked (Unit {0})
expire_func_value env type one = of_form (out-Expr one)
  where
    place : Place
    place = expr_place env one

    same_types : List ValueType → List ValueType → Bool
    same_types [] [] = true
    same_types (a ∷ xs) (b ∷ ys) = same_type a b && same_types xs ys
    same_types xs ys = false

    wanted : ValueType → List ValueType
    wanted (Table keys value) = Table keys value ∷ map Simple keys
    wanted (Set keys) = Set keys ∷ map Simple keys
    wanted other = []

    gives_interval : Option ValueType → Bool
    gives_interval (Some one) = same_type one interval
      where
        interval : ValueType
        interval = Simple simple.Interval
    gives_interval None = false

    of_signature : Signature → Checked (Unit {0})
    of_signature signature = both (params_of env.scripts signature) (result_of env.scripts signature) >>= (λ parts.
        require (same_types parts.0 (wanted type) && gives_interval parts.1) rule.WrongType place)

    of_declared : Option Declared → Checked (Unit {0})
    of_declared None = broken rule.Unknown place
    of_declared (Some declared) = of_meant declared.meant
      where
        of_meant : Meant → Checked (Unit {0})
        of_meant (Function signature) = of_signature signature
        of_meant other = broken rule.WrongType place

    of_form : Expr-F Expr Item Part Link → Checked (Unit {0})
    of_form (written.Name name) = of_declared (look_up env.scripts.names env.home.module_name name.text)
    of_form other = broken rule.WrongType place

abbrev pub attr_checked : Env → ValueType → Attr → Checked (Unit {0})
attr_checked env type attr = of_value attr.value
  where
    default_type : ValueType → ValueType
    default_type (Table keys value) = value
    default_type other = other

    of_value : Option Expr → Checked (Unit {0})
    of_value None = Ok tt
    of_value (Some one) =
        if bytes_eq attr.name (codes "default") then nothing (default_typed env (default_type type) one)
        else (if bytes_eq attr.name (codes "expire_func") then expire_func_value env type one else nothing (expiry_value env one))

abbrev pub global_attrs : Scripts → Home → Lasting → List ℕ → ValueType → List Attr → Checked (Unit {0})
global_attrs scripts home lasting whole type attrs =
    attr_rules home (allowed_in lasting (only_made scripts whole) type) with_value (attr_checked (env_at scripts home) type) [] attrs
