-- The rules of names and types that scripts break, by load order, place and kind.
use Rattle.std.specs.Prelude.{ℕ, slice_get, filter, ◌^◌, ◌==◌, nat_lt, nat_le, Bool, true, false, not, ◌&&◌, ◌||◌, List, [], ◌∷◌, ◌++◌, length, map, flat_map, codes, Option, Some, None, Ok, Err, if◌then◌else◌}
use Rattle.std.specs.List.{list_any, list_all}
use Rattle.std.specs.Str.{bytes_eq}
use Rattle.zk_tree.specs.declared.decl.BodyKind.{BodyKind}
use Rattle.zk_tree.specs.declared.decl.BodyKind.TheVariants as body
use Rattle.zk_tree.specs.declared.decl.Decl.{Decl, out-Decl}
use Rattle.zk_tree.specs.declared.decl.Decl.TheOpen.{Decl-F}
use Rattle.zk_tree.specs.declared.decl.Decl.TheOpen as decl
use Rattle.zk_tree.specs.declared.decl.Redefining.{Redefining}
use Rattle.zk_tree.specs.declared.decl.Redefining.TheVariants as redefining
use Rattle.zk_tree.specs.declared.expr.Expr.{Expr}
use Rattle.zk_tree.specs.declared.name.Name.{Name}
use Rattle.zk_tree.specs.declared.operator.Assigning.TheVariants as assigning
use Rattle.zk_tree.specs.declared.place.Place.{Place}
use Rattle.zk_tree.specs.declared.stmt.Block.{Block}
use Rattle.zk_tree.specs.declared.stmt.Init.{Init}
use Rattle.zk_tree.specs.declared.stmt.Init.TheVariants as init
use Rattle.zk_tree.specs.declared.types.Attr.{Attr}
use Rattle.zk_tree.specs.declared.types.Field.{Field, out-Field}
use Rattle.zk_tree.specs.declared.types.Param.{Param, out-Param}
use Rattle.zk_tree.specs.declared.types.Type.{«Type»}
use Rattle.zk_typed.specs.declared.rule.Rule.{Rule}
use Rattle.zk_typed.specs.declared.rule.Rule.TheVariants as rule
use Rattle.zk_typed.specs.declared.script.literal.DefaultValue.{DefaultValue}
use Rattle.zk_typed.specs.declared.script.literal.DefaultValue.TheVariants as default
use Rattle.zk_typed.specs.declared.script.literal.Literal.TheVariants as literal
use Rattle.zk_typed.specs.declared.script.literal.Sign.TheVariants.{Negated}
use Rattle.zk_typed.specs.declared.script.types.SimpleType.TheVariants as simple
use Rattle.zk_typed.specs.Checked.{Checked, Broken, broken, broken_anyway, ◌>>=◌, ◌>>◌, both, each, require, rules_of}
use Rattle.zk_typed.specs.Declarations.{bodiless, env_at, told_type, global_type, is_mark, is_circular, default_typed, attr_rules, is_one_of, with_value, type_rules, maybe_rules, param_rules, fields_rules, field_rules, recursive_rules, global_attrs, const_attribute, nothing}
use Rattle.zk_typed.specs.Declaring.{scripts_of, predefined_names, outright}
use Rattle.zk_base.specs.declared.numbers.LogId.{LogId}
use Rattle.zk_base.specs.declared.numbers.RecordNo.{RecordNo}
use Rattle.zk_typed.specs.declared.script.log_call.LogCall.{LogCall}
use Rattle.zk_typed.specs.declared.script.log_call.LogCall.TheVariants as log
use Rattle.zk_typed.specs.declared.script.primitive.Primitive.TheVariants as primitive
use Rattle.zk_typed.specs.Expressions.{added_type, expr_typed}
use Rattle.zk_typed.specs.Forms as form
use Rattle.zk_typed.specs.LogCalls.{Call, LeafInfo, leaves, logged, is_log_word, stream_type, decl_calls, all_calls}
use Rattle.zk_typed.specs.Logs.{picked}
use Rattle.zk_typed.specs.LoadOrder.{File, Home, Stated}
use Rattle.zk_typed.specs.Names.{Declared, Meant, KnownType, Variable, Event, Hook, Function, BuiltInFunction, Log, Signature, Node, RecordNode, EnumNode, whole_name, look_up, decl_nodes, find_whole}
use Rattle.zk_typed.specs.Operations.{same_type}
use Rattle.zk_typed.specs.Predefined as type
use Rattle.zk_typed.specs.Resolving.{Scripts, FieldInfo, place_in, type_of, type_named, params_of, result_of, maybe_type, fields_of, deeper, hushed, has_attr}
use Rattle.zk_typed.specs.Statements.{Context, Within, InFunction, InHook, InHandler, init_typed, body_typed, Locals}
use Rattle.zk_typed.specs.Types.{ValueType, Simple, Record}
use Rattle.zk_typed.specs.Typing.{Typed, Env, Wanted, Nothing, Wants, Unclear, wanted_of, expr_place}
use Rattle.zk_typed.specs.Making.{is_container}
use Rattle.zk_typed.specs.Names.{Known, Written}
use Rattle.zk_typed.specs.Statements.{Stated as Judged}
use Rattle.zk_typed.specs.Typing.{number_among, is_variable}
use Rattle.zk_typed.specs.Declarations.{local_rules, parts_rules}
use Rattle.zk_typed.specs.Within.{mentions}

-- Globals and constants --------------------------------------------------------------------------------------------

abbrev pub init_place : Env → Init → Place
init_place env (init.Value one) = expr_place env one
init_place env (init.Braces place values comma) = place_in env.home place

-- An initial value that rests on names whose types rest on it has no type that can be told. What else is broken in it hides that.
abbrev pub told : Place → Checked Typed → Checked Typed
told place (Ok one) = Ok one
told place (Err rules) = if is_circular rules then of_others (filter (λ one. not (is_mark one)) rules) else Err rules
  where
    of_others : List Broken → Checked Typed
    of_others [] = broken rule.WrongType place
    of_others (first ∷ others) = Err (first ∷ others)

-- the initial value that tells a name's type
abbrev pub telling_value : Scripts → Home → Init → Checked Typed
telling_value scripts home one =
    let env = bodiless scripts home (told_type scripts) in
    told (init_place env one) (init_typed env Nothing one)

-- a value that is given to a name whose type is told elsewhere
abbrev pub init_checked : Scripts → Home → Wanted → Init → Checked Typed
init_checked scripts home wanted one = init_typed (env_at scripts home) wanted one

abbrev pub value_rules : Scripts → Home → Place → Option «Type» → Option Init → Checked ValueType
value_rules scripts home place None None = broken rule.WrongType place
value_rules scripts home place None (Some one) = telling_value scripts home one >>= (λ given. Ok given.type)
value_rules scripts home place (Some tree) None = type_rules scripts home tree >> type_of scripts home tree
value_rules scripts home place (Some tree) (Some one) =
    both (type_rules scripts home tree) (init_checked scripts home (wanted_of (type_of scripts home tree)) one) >> type_of scripts home tree

abbrev pub signature_rules : Scripts → Signature → Checked (Unit {0})
signature_rules scripts (Known params) = Ok tt
signature_rules scripts (Written home params «result») =
    nothing (both (param_rules scripts home [] params) (maybe_rules scripts home «result»))

-- a name of events, hooks or functions is given no value
abbrev pub no_value : Scripts → Home → Option Init → Checked (Unit {0})
no_value scripts home None = Ok tt
no_value scripts home (Some one) = broken_anyway (init_checked scripts home Nothing one) rule.WrongType (init_place (env_at scripts home) one)

abbrev pub bodiless_rules : Scripts → Home → Signature → Option Init → List Attr → Checked (Unit {0})
bodiless_rules scripts home signature init attrs =
    nothing (both (both (signature_rules scripts signature) (no_value scripts home init)) (attr_rules home const_attribute with_value (λ attr. Ok tt) [] attrs))

-- a declaration of a value, or of an event, a hook or a function
abbrev pub variable_rules : Scripts → Home → Place → Name → Option «Type» → Option Init → List Attr → Meant → Checked (Unit {0})
variable_rules scripts home place name tree init attrs (Variable same lasting other given more) =
    value_rules scripts home place tree init >>= (λ type. global_attrs scripts home lasting (whole_name home.module_name name.text) type attrs)
variable_rules scripts home place name tree init attrs (Event signature) = bodiless_rules scripts home signature init attrs
variable_rules scripts home place name tree init attrs (Hook signature) = bodiless_rules scripts home signature init attrs
variable_rules scripts home place name tree init attrs (Function signature) = bodiless_rules scripts home signature init attrs
variable_rules scripts home place name tree init attrs other = Ok tt

-- Values given anew ------------------------------------------------------------------------------------------------

abbrev pub redef_wants : Redefining → ValueType → Option ValueType
redef_wants redefining.Set type = Some type
redef_wants redefining.Add type = added_type assigning.Add type

abbrev pub redef_value : Scripts → Home → Init → Checked (Option ValueType) → Checked (Unit {0})
redef_value scripts home init (Err rules) = nothing (init_checked scripts home Unclear init)
redef_value scripts home init (Ok None) = broken rule.WrongType (init_place (env_at scripts home) init)
redef_value scripts home init (Ok (Some wanted)) = nothing (init_checked scripts home (Wants wanted) init)

abbrev pub number_of_variable : Scripts → Declared → ℕ
number_of_variable scripts one = number_among is_variable scripts one

abbrev pub redef_rules : Scripts → Home → Place → Name → Redefining → Init → Option Declared → Checked (Unit {0})
redef_rules scripts home place name operator init None = broken rule.Unknown (place_in home name.place)
redef_rules scripts home place name operator init (Some one) = of_meant one.meant
  where
    of_meant : Meant → Checked (Unit {0})
    of_meant (Variable other lasting tree given attrs) =
        require (has_attr (codes "redef") attrs) rule.FixedGlobal place >>
        redef_value scripts home init (global_type scripts (number_of_variable scripts one) >>= (λ type. Ok (redef_wants operator type)))
    of_meant other = broken rule.WrongType (place_in home name.place)

-- Records and enums ------------------------------------------------------------------------------------------------

abbrev pub field_names : List FieldInfo → List (List ℕ)
field_names fields = map (λ field. field.name) fields

-- a field that is added to a predefined record needn't be given
abbrev pub added_rules : Scripts → Home → ℕ → Field → Checked (Unit {0})
added_rules scripts home number field =
    require (not (nat_lt number (length type.record_types)) || free) rule.Field (place_in home (out-Field field).name.place)
  where
    free : Bool
    free = has_attr (codes "optional") (out-Field field).attrs || has_attr (codes "default") (out-Field field).attrs || is_container (type_of scripts home (out-Field field).field_type)

abbrev pub redef_record_rules : Scripts → Scripts → Home → Name → List Field → Checked ValueType → Checked (Unit {0})
redef_record_rules scripts before home name fields (Err rules) = Err rules
redef_record_rules scripts before home name fields (Ok type) = of_type type
  where
    of_type : ValueType → Checked (Unit {0})
    of_type (Record number) =
        fields_rules (λ home earlier field. nothing (both (both (field_rules scripts home earlier field) (parts_rules (deeper 199 scripts) scripts home (out-Field field).field_type)) (added_rules scripts home number.0 field)))
        home (field_names (fields_of before number.0)) fields
    of_type other = broken rule.WrongType (place_in home name.place)

abbrev pub is_enum : ValueType → Bool
is_enum (Simple (simple.Enum number)) = true
is_enum other = false

abbrev pub redef_enum_rules : Scripts → Home → Name → Checked (Unit {0})
redef_enum_rules scripts home name = type_named scripts home name >>= (λ type. require (is_enum type) rule.WrongType (place_in home name.place))

-- Bodies -----------------------------------------------------------------------------------------------------------

abbrev pub param_locals : Scripts → Home → List Param → Locals
param_locals scripts home params = map (λ param. record { name = (out-Param param).name.text; type = hushed (type_of scripts home (out-Param param).param_type) }) params

abbrev pub body_context : Scripts → Home → Within → Context
body_context scripts home within = record { scripts = scripts; home = home; global_type = global_type scripts; within = within; in_loop = false }

abbrev pub body_made : Scripts → Home → Within → List Param → Block → Judged
body_made scripts home within params block = body_typed (body_context scripts home within) (param_locals scripts home params) block

abbrev pub same_types : List ValueType → List ValueType → Bool
same_types [] [] = true
same_types (a ∷ xs) (b ∷ ys) = same_type a b && same_types xs ys
same_types xs ys = false

abbrev pub same_result : Option ValueType → Option ValueType → Bool
same_result None None = true
same_result (Some a) (Some b) = same_type a b
same_result a b = false

-- a body has the parameters and the result of its declaration
abbrev pub matches : Scripts → Home → Place → List Param → Option «Type» → Signature → Checked (Unit {0})
matches scripts home place params «result» signature =
    both (both (each (λ param. hushed (type_of scripts home (out-Param param).param_type)) params) (hushed (maybe_type scripts home «result»)))
    (both (params_of scripts signature) (result_of scripts signature)) >>= (λ parts.
    require (same_types parts.0.0 parts.1.0 && same_result parts.0.1 parts.1.1) rule.Arguments place)

-- the name in the head of a body: a visible one of its kind
abbrev pub head_rules : Scripts → Home → Place → Name → (Meant → Option Signature) → List Param → Option «Type» → Option Declared → Checked (Unit {0})
head_rules scripts home place name kind params «result» None = broken rule.Unknown (place_in home name.place)
head_rules scripts home place name kind params «result» (Some one) = of_kind (kind one.meant)
  where
    of_kind : Option Signature → Checked (Unit {0})
    of_kind None = broken rule.WrongType (place_in home name.place)
    of_kind (Some signature) = matches scripts home place params «result» signature

abbrev pub kind_of : BodyKind → Meant → Option Signature
kind_of body.Event (Event signature) = Some signature
kind_of body.Hook (Hook signature) = Some signature
kind_of kind other = None

abbrev pub function_kind : Meant → Option Signature
function_kind (Function signature) = Some signature
function_kind other = None

-- a number that a minus sign may stand before is one of an int
abbrev pub is_int_number : DefaultValue → Bool
is_int_number (default.Literal (literal.Count number) Negated) = nat_le number (2 ^ 63)
is_int_number (default.Literal (literal.Count number) sign) = nat_lt number (2 ^ 63)
is_int_number other = true

-- the value of `&priority`: a number with at most one minus sign
abbrev pub priority_typed : Env → Expr → Checked DefaultValue
priority_typed env one = default_typed env type.int one >>= (λ given. require (is_int_number given) rule.WrongType (expr_place env one) >> Ok given)

abbrev pub priority_rules : Scripts → Home → Option Expr → Checked (Unit {0})
priority_rules scripts home None = Ok tt
priority_rules scripts home (Some one) = nothing (priority_typed (env_at scripts home) one)

abbrev pub within_of : BodyKind → Within
within_of body.Event = InHandler
within_of body.Hook = InHook

abbrev pub result_wanted : Scripts → Home → Option «Type» → Option Wanted
result_wanted scripts home None = None
result_wanted scripts home (Some tree) = Some (wanted_of (type_of scripts home tree))

abbrev pub event_rules : Scripts → Home → Place → BodyKind → Name → List Param → List Attr → Block → Checked (Unit {0})
event_rules scripts home place kind name params attrs block =
    nothing (both (both (param_rules scripts home [] params) (head_rules scripts home place name (kind_of kind) params None (look_up scripts.names home.module_name name.text)))
    (both (attr_rules home (is_one_of (codes "priority" ∷ [])) with_value (λ attr. priority_rules scripts home attr.value) [] attrs)
    (both (local_rules scripts home block) (body_made scripts home (within_of kind) params block).made)))

-- an earlier body of the same function
abbrev pub is_body_of : List ℕ → Stated → Bool
is_body_of whole one = of_form (out-Decl one.decl)
  where
    of_form : Decl-F Decl → Bool
    of_form (decl.Function place name params «result» block) = bytes_eq (whole_name one.home.module_name name.text) whole
    of_form other = false

-- a built-in function has its body
abbrev pub is_built_in : Option Declared → Bool
is_built_in None = false
is_built_in (Some one) = of_meant one.meant
  where
    of_meant : Meant → Bool
    of_meant (BuiltInFunction function) = true
    of_meant (Log function) = true
    of_meant other = false

-- a second body breaks the rule in its head alone
abbrev pub function_head : Scripts → List Stated → Home → Place → Name → List Param → Option «Type» → List ℕ → Checked (Unit {0})
function_head scripts earlier home place name params «result» whole =
    let declared = find_whole scripts.names home.module_name whole in
    require (not (list_any (is_body_of whole) earlier || is_built_in declared)) rule.Twice place >>
    head_rules scripts home place name function_kind params «result» declared

abbrev pub function_rules : Scripts → List Stated → Home → Place → Name → List Param → Option «Type» → Block → Checked (Unit {0})
function_rules scripts earlier home place name params «result» block =
    let whole = whole_name home.module_name name.text in
    nothing (both (both (param_rules scripts home [] params) (maybe_rules scripts home «result»))
    (both (function_head scripts earlier home place name params «result» whole)
    (both (local_rules scripts home block) (body_made scripts home (InFunction (result_wanted scripts home «result»)) params block).made)))

-- Names that are declared twice ------------------------------------------------------------------------------------

-- the names that a declaration declares, each with the place where it would be told
abbrev pub node_names : Home → Node → List (List ℕ × ℕ)
node_names home (RecordNode other place fields) = []
node_names home (EnumNode other place words) = map (λ word. (whole_name home.module_name word.text, word.place)) words

abbrev pub declares : Home → Decl-F Decl → List (List ℕ × ℕ)
declares home (decl.Variable place lasting name tree init attrs) =
    (whole_name home.module_name name.text, place) ∷ flat_map (node_names home) (decl_nodes home (decl.Variable place lasting name tree init attrs))
declares home (decl.Type place name tree) = (whole_name home.module_name name.text, place) ∷ flat_map (node_names home) (decl_nodes home (decl.Type place name tree))
declares home (decl.RedefEnum place name words comma) = map (λ word. (whole_name home.module_name word.text, word.place)) words
declares home other = flat_map (node_names home) (decl_nodes home other)

abbrev pub declared_before : List Stated → List (List ℕ)
declared_before earlier =
    map (λ one. one.name) predefined_names ++ flat_map (λ one. map (λ named. named.0) (declares one.home (out-Decl one.decl))) earlier

abbrev pub twice_rules : Home → List (List ℕ) → List (List ℕ × ℕ) → Checked (Unit {0})
twice_rules home before [] = Ok tt
twice_rules home before (one ∷ others) =
    both (require (not (is_one_of before one.0)) rule.Twice (place_in home one.1)) (twice_rules home (one.0 ∷ before) others) >> Ok tt

-- Declarations -----------------------------------------------------------------------------------------------------

abbrev pub meant_by : Scripts → Home → Decl-F Decl → Meant
meant_by scripts home one = first (outright home one)
  where
    first : List Declared → Meant
    first [] = KnownType type.bool
    first (one ∷ others) = one.meant

abbrev pub decl_rules : Scripts → List Stated → Home → Decl-F Decl → Checked (Unit {0})
decl_rules scripts earlier home (decl.Variable place lasting name tree init attrs) =
    variable_rules scripts home (place_in home place) name tree init attrs (meant_by scripts home (decl.Variable place lasting name tree init attrs))
decl_rules scripts earlier home (decl.Redef place name operator init) =
    redef_rules scripts home (place_in home place) name operator init (look_up scripts.names home.module_name name.text)
decl_rules scripts earlier home (decl.Type place name tree) =
    nothing (both (type_rules scripts home tree) (recursive_rules scripts home (whole_name home.module_name name.text) (mentions tree)))
decl_rules scripts earlier home (decl.RedefEnum place name words comma) = redef_enum_rules scripts home name
decl_rules scripts earlier home (decl.RedefRecord place name fields) =
    redef_record_rules scripts (record scripts { stated = earlier }) home name fields (type_named scripts home name)
decl_rules scripts earlier home (decl.Body place kind name params attrs block) = event_rules scripts home (place_in home place) kind name params attrs block
decl_rules scripts earlier home (decl.Function place name params «result» block) =
    function_rules scripts earlier home (place_in home place) name params «result» block
decl_rules scripts earlier home other = Ok tt

-- Paths of logs -----------------------------------------------------------------------------------------------------

-- a path, and the columns of a stream or filter that writes to it
pub record PathUse : Type 0 where
  pub path : List ℕ
  pub columns : List LeafInfo

abbrev pub leaves_of_log : Scripts → LogId → List LeafInfo
leaves_of_log scripts number = of_word (slice_get (filter is_log_word scripts.names) number.0)
  where
    of_type : Option RecordNo → List LeafInfo
    of_type None = []
    of_type (Some type) = leaves scripts type

    of_word : Option Declared → List LeafInfo
    of_word None = []
    of_word (Some word) = of_type (stream_type scripts word.name)

-- what a call of the log framework is, where it says something of streams and filters
abbrev pub log_call : Scripts → Call → List LogCall
log_call scripts call = of_form (expr_typed (env_at scripts call.home) Nothing call.whole)
  where
    of_expr : form.Expr → List LogCall
    of_expr (form.Apply (primitive.Log one) operands) = one ∷ []
    of_expr other = []

    of_form : Checked Typed → List LogCall
    of_form (Ok one) = of_expr one.expr
    of_form (Err rules) = []

abbrev pub log_calls : Scripts → List Call → List LogCall
log_calls scripts calls = flat_map (log_call scripts) calls

-- the paths that are given to the stream of a log
abbrev pub stream_paths : LogId → List LogCall → List (List ℕ)
stream_paths number calls = flat_map of_call calls
  where
    of_call : LogCall → List (List ℕ)
    of_call (log.Create other event path policy columns) = if other.0 == number.0 then path ∷ [] else []
    of_call other = []

abbrev pub path_use : Scripts → LogCall → List PathUse
path_use scripts (log.Create number event path policy columns) = record { path = path; columns = picked (leaves_of_log scripts number) columns } ∷ []
path_use scripts (log.AddFilter number name (Some path) policy columns) = record { path = path; columns = picked (logged (leaves_of_log scripts number)) columns } ∷ []
path_use scripts (log.AddFilter number name None policy columns) =
    map (λ path. record { path = path; columns = picked (logged (leaves_of_log scripts number)) columns }) (stream_paths number (log_calls scripts (all_calls scripts)))
path_use scripts (log.RemoveFilter number name) = []

abbrev pub call_uses : Scripts → Call → List PathUse
call_uses scripts call = flat_map (path_use scripts) (log_call scripts call)

abbrev pub same_columns : List LeafInfo → List LeafInfo → Bool
same_columns [] [] = true
same_columns (a ∷ xs) (b ∷ ys) = bytes_eq a.name b.name && bytes_eq a.kind b.kind && same_wire a.wire b.wire && same_columns xs ys
  where
    same_wire : Bool → Bool → Bool
    same_wire true wire = wire
    same_wire false wire = not wire
same_columns xs ys = false

-- none of these has the same path with other columns
abbrev pub agrees : List PathUse → PathUse → Bool
agrees uses one = list_all (λ other. not (bytes_eq other.path one.path) || same_columns other.columns one.columns) uses

abbrev pub path_rules : Scripts → List PathUse → List Call → Checked (Unit {0})
path_rules scripts uses [] = Ok tt
path_rules scripts uses (call ∷ calls) =
    both (require (list_all (agrees uses) (call_uses scripts call)) rule.Twice (place_in call.home call.name.place))
    (path_rules scripts (uses ++ call_uses scripts call) calls) >> Ok tt

abbrev pub uses_of : Scripts → List Stated → List PathUse
uses_of scripts earlier = flat_map (λ one. flat_map (call_uses scripts) (decl_calls one.home (out-Decl one.decl))) earlier

-- Errors -----------------------------------------------------------------------------------------------------------

abbrev pub rule_number : Rule → ℕ
rule_number rule.Unknown = 1
rule_number rule.Twice = 2
rule_number rule.WrongType = 3
rule_number rule.Field = 4
rule_number rule.Recursive = 5
rule_number rule.NotConst = 6
rule_number rule.FixedGlobal = 7
rule_number rule.Arguments = 8
rule_number rule.Return = 9
rule_number rule.Break = 10
rule_number rule.Attribute = 11
rule_number rule.Format = 12

abbrev pub is_told_before : Broken → Broken → Bool
is_told_before a b = nat_lt a.place.byte b.place.byte || (a.place.byte == b.place.byte && nat_lt (rule_number a.rule) (rule_number b.rule))

abbrev pub placed : Broken → List Broken → List Broken
placed one [] = one ∷ []
placed one (other ∷ others) = elim (is_told_before other one) [ true ↦ other ∷ placed one others | false ↦ one ∷ other ∷ others ]

abbrev pub by_place : List Broken → List Broken
by_place [] = []
by_place (one ∷ others) = placed one (by_place others)

abbrev pub errors_of : Scripts → List Stated → Stated → List Broken
errors_of scripts earlier one =
    by_place (rules_of (decl_rules scripts earlier one.home (out-Decl one.decl)) ++ rules_of (twice_rules one.home (declared_before earlier) (declares one.home (out-Decl one.decl))) ++
    rules_of (path_rules scripts (uses_of scripts earlier) (decl_calls one.home (out-Decl one.decl))))

abbrev pub errors_from : Scripts → List Stated → List Stated → List Broken
errors_from scripts earlier [] = []
errors_from scripts earlier (one ∷ others) = errors_of scripts earlier one ++ errors_from scripts (earlier ++ one ∷ []) others

-- the broken rules of scripts
abbrev pub errors : List File → List Broken
errors files =
    let scripts = scripts_of files in
    errors_from scripts [] scripts.stated
