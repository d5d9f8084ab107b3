-- The typed program of scripts that break no rule.
use Rattle.std.specs.Prelude.{ℕ, zero, suc, ◌+◌, ℤ, pos, neg_ℤ, true, false, List, [], ◌∷◌, ◌++◌, length, map, filter, flat_map, codes, Option, Some, None, Ok, Err, if◌then◌else◌}
use Rattle.std.specs.Option.{option_map, option_and_then}
use Rattle.std.specs.Str.{bytes_eq}
use Rattle.zk_base.specs.declared.time.Span.{Span}
use Rattle.zk_tree.specs.declared.decl.BodyKind.TheVariants as body
use Rattle.zk_tree.specs.declared.decl.Decl.{Decl, out-Decl}
use Rattle.zk_tree.specs.declared.decl.Decl.TheOpen.{Decl-F}
use Rattle.zk_tree.specs.declared.decl.Decl.TheOpen as decl
use Rattle.zk_tree.specs.declared.decl.Redefining.{Redefining}
use Rattle.zk_tree.specs.declared.expiry.Expiry.{Expiry}
use Rattle.zk_tree.specs.declared.expiry.Expiry.TheVariants.{Create, Read, Write}
use Rattle.zk_tree.specs.declared.expr.Expr.{Expr, out-Expr}
use Rattle.zk_tree.specs.declared.expr.Expr.TheOpen.{Expr-F}
use Rattle.zk_tree.specs.declared.expr.Expr.TheOpen as written
use Rattle.zk_tree.specs.declared.expr.Item.{Item}
use Rattle.zk_tree.specs.declared.expr.Link.{Link}
use Rattle.zk_tree.specs.declared.expr.Part.{Part}
use Rattle.zk_tree.specs.declared.place.Place.{Place}
use Rattle.zk_tree.specs.declared.stmt.Init.{Init}
use Rattle.zk_tree.specs.declared.types.Attr.{Attr}
use Rattle.zk_typed.specs.declared.script.literal.DefaultValue.{DefaultValue}
use Rattle.zk_typed.specs.declared.script.literal.DefaultValue.TheVariants as default
use Rattle.zk_typed.specs.declared.script.literal.Literal.TheVariants as literal
use Rattle.zk_typed.specs.declared.script.literal.Sign.TheVariants.{Negated}
use Rattle.zk_typed.specs.declared.script.primitive.Primitive.TheVariants as primitive
use Rattle.zk_typed.specs.declared.script.primitive.Shape.{Shape}
use Rattle.zk_typed.specs.Checked.{Checked}
use Rattle.zk_typed.specs.Declarations.{variables, global_type, env_at, constant_typed, values_of, is_set}
use Rattle.zk_typed.specs.Declaring.{scripts_of}
use Rattle.zk_typed.specs.Errors.{errors, body_made, within_of, redef_wants, result_wanted}
use Rattle.zk_typed.specs.Forms as form
use Rattle.zk_typed.specs.LogCalls.{is_log_word, stream_type}
use Rattle.zk_typed.specs.LoadOrder.{File, Home, Stated}
use Rattle.zk_typed.specs.Names.{Declared, Meant, Variable, Event, Hook, Function, Signature, Known, Written, is_record, look_up, whole_name}
use Rattle.zk_typed.specs.Predefined as type
use Rattle.zk_typed.specs.Program as program
use Rattle.zk_typed.specs.Program.{Program}
use Rattle.zk_typed.specs.Resolving.{Scripts, FieldInfo, place_in, fields_of, params_of, result_of, attr_value}
use Rattle.zk_typed.specs.Statements as statement
use Rattle.zk_typed.specs.Statements.{InFunction, init_typed, empty_of}
use Rattle.zk_typed.specs.Types.{ValueType, Simple, Record, Table, Set, Vector}
use Rattle.zk_typed.specs.Typing.{Wants, number_among, is_event, is_hook, is_function}
use Rattle.std.specs.Prelude.{◌≡◌}

-- what was checked; scripts that break no rule have no other
abbrev pub checked_or : {A : Type 0} → A → Checked A → A
checked_or otherwise (Ok a) = a
checked_or otherwise (Err rules) = otherwise

abbrev pub if_checked : {A : Type 0} → Checked A → Option A
if_checked (Ok a) = Some a
if_checked (Err rules) = None

-- the numbers from 0 up to so many
abbrev pub numbers_from : ℕ → ℕ → List ℕ
numbers_from first zero = []
numbers_from first (suc count) = first ∷ numbers_from (first + 1) count

-- Record types -----------------------------------------------------------------------------------------------------

abbrev pub empty_default : ValueType → Option DefaultValue
empty_default (Table keys value) = Some default.EmptyTable
empty_default (Set keys) = Some default.EmptyTable
empty_default (Vector item) = Some default.EmptyVector
empty_default (Record number) = None
empty_default (Simple one) = None

-- the value of `&default`, or a new empty container where the field isn't `&optional`
abbrev pub field_begins : Scripts → FieldInfo → ValueType → Option DefaultValue
field_begins scripts field one = of_default field.default
  where
    of_default : Option Expr → Option DefaultValue
    of_default None = if field.optional then None else empty_default one
    of_default (Some given) = if_checked (constant_typed (env_at scripts field.home) one given)

abbrev pub field_of : Scripts → FieldInfo → program.Field
field_of scripts field =
    let one = checked_or type.bool field.field_type in
    record { name = field.name; field_type = one; log = field.log; wire = field.wire; begins = field_begins scripts field one }

abbrev pub record_of : Scripts → ℕ → program.RecordType
record_of scripts number = record { fields = map (field_of scripts) (fields_of scripts number) }

abbrev pub records_of : Scripts → List program.RecordType
records_of scripts = map (record_of scripts) (numbers_from 0 (length type.record_types + length (filter is_record scripts.nodes)))

-- Globals ----------------------------------------------------------------------------------------------------------

-- the last `=` among values that a name is given, and each later `+=`
abbrev pub since_set : List (Home × Redefining × Init) → List (Home × Redefining × Init) → List (Home × Redefining × Init)
since_set before [] = before
since_set before (one ∷ others) = elim (is_set one.1) [ true ↦ since_set (one ∷ []) others | false ↦ since_set (before ++ one ∷ []) others ]

abbrev pub expiry_of : Scripts → Home → List Attr → Option Expiry
expiry_of scripts home attrs =
    first (span (codes "create_expire")) Create (first (span (codes "read_expire")) Read (first (span (codes "write_expire")) Write None))
  where
    of_default : DefaultValue → Span
    of_default (default.Literal (literal.Interval span) Negated) = record { 0 = neg_ℤ span.0 }
    of_default (default.Literal (literal.Interval span) sign) = span
    of_default other = record { 0 = pos 0 }

    span : List ℕ → Option Span
    span name = option_map of_default (option_and_then (λ one. if_checked (constant_typed (env_at scripts home) type.interval one)) (attr_value name attrs))

    first : Option Span → (Span → Expiry) → Option Expiry → Option Expiry
    first None make other = other
    first (Some one) make other = Some (make one)

abbrev pub default_type : ValueType → ValueType
default_type (Table keys value) = value
default_type other = other

abbrev pub default_of : Scripts → Home → ValueType → List Attr → Option DefaultValue
default_of scripts home one attrs = option_and_then (λ given. if_checked (constant_typed (env_at scripts home) (default_type one) given)) (attr_value (codes "default") attrs)

abbrev pub with_shape : Option Expiry → Option DefaultValue → Shape → Shape
with_shape expiry default shape = record shape { expiry = expiry; default = default }

-- a table or set that is made has the expiry and the default of its global
abbrev pub shaped : Option Expiry → Option DefaultValue → form.Expr → form.Expr
shaped expiry default (form.Apply (primitive.NewTable shape) operands) = form.Apply (primitive.NewTable (with_shape expiry default shape)) operands
shaped expiry default (form.Apply (primitive.NewSet shape) operands) = form.Apply (primitive.NewSet (with_shape expiry default shape)) operands
shaped expiry default other = other

abbrev pub given_value : Scripts → ValueType → Home × Redefining × Init → Option form.Expr
given_value scripts one given = option_and_then (λ wanted.
    option_map (λ made. made.expr) (if_checked (init_typed (env_at scripts given.0) (Wants wanted) given.2))) (redef_wants given.1 one)

-- what values are added to where no `=` gives one: a new empty container, and else the name itself, which has no value
abbrev pub added_to : ℕ → Option form.Expr → form.Expr
added_to number None = form.Global number
added_to number (Some made) = made

abbrev pub first_given : Scripts → ℕ → ValueType → List (Home × Redefining × Init) → Option form.Expr
first_given scripts number one [] = empty_of one
first_given scripts number one (given ∷ others) = elim (is_set given.1) [ true ↦ given_value scripts one given | false ↦ Some (added_to number (empty_of one)) ]

abbrev pub later_given : List (Home × Redefining × Init) → List (Home × Redefining × Init)
later_given [] = []
later_given (given ∷ others) = elim (is_set given.1) [ true ↦ others | false ↦ given ∷ others ]

abbrev pub all_given : Scripts → ValueType → List (Home × Redefining × Init) → List form.Expr
all_given scripts one [] = []
all_given scripts one (given ∷ others) = of_value (given_value scripts one given) (all_given scripts one others)
  where
    of_value : Option form.Expr → List form.Expr → List form.Expr
    of_value None more = more
    of_value (Some made) more = made ∷ more

-- the function that a name of `&expire_func` means
abbrev pub function_number : Scripts → Home → Option Expr → Option ℕ
function_number scripts home None = None
function_number scripts home (Some one) = of_form (out-Expr one)
  where
    of_form : Expr-F Expr Item Part Link → Option ℕ
    of_form (written.Name name) = option_map (number_among is_function scripts) (look_up scripts.names home.module_name name.text)
    of_form other = None

-- the place of the declaration of a global
abbrev pub variable_place : List ℕ → Place → Home → Decl-F Decl → Place
variable_place whole otherwise home (decl.Variable place lasting name tree init attrs) =
    if bytes_eq (whole_name home.module_name name.text) whole then place_in home place else otherwise
variable_place whole otherwise home other = otherwise

abbrev pub place_of_variable : List ℕ → List Stated → Place
place_of_variable whole [] = record { file = 0; byte = 0 }
place_of_variable whole (one ∷ others) = variable_place whole (place_of_variable whole others) one.home (out-Decl one.decl)

abbrev pub global_made : Scripts → ℕ → Declared → Home → List Attr → program.Global
global_made scripts number one home attrs =
    let type = checked_or type.bool (global_type scripts number) in
    let expiry = expiry_of scripts home attrs in
    let given = since_set [] (values_of scripts one.name) in
    record {
      place = place_of_variable one.name scripts.stated;
      global_type = type;
      initial = option_map (shaped expiry (default_of scripts home type attrs)) (first_given scripts number type given);
      added = all_given scripts type (later_given given);
      expiry = expiry;
      expire_func = function_number scripts home (attr_value (codes "expire_func") attrs);
    }

abbrev pub globals_from : Scripts → ℕ → List Declared → List program.Global
globals_from scripts number [] = []
globals_from scripts number (one ∷ others) = of_meant one.meant (globals_from scripts (number + 1) others)
  where
    of_meant : Meant → List program.Global → List program.Global
    of_meant (Variable home lasting tree init attrs) more = global_made scripts number one home attrs ∷ more
    of_meant other more = more

-- Bodies -----------------------------------------------------------------------------------------------------------

abbrev pub no_stmt : form.Stmt
no_stmt = form.Block form.NoStmt

abbrev pub stmt_in : statement.Stated → form.Stmt
stmt_in one = checked_or no_stmt one.made

abbrev pub priority_of : Scripts → Home → List Attr → ℤ
priority_of scripts home attrs = of_default (option_and_then (λ one. if_checked (constant_typed (env_at scripts home) type.int one)) (attr_value (codes "priority") attrs))
  where
    of_default : Option DefaultValue → ℤ
    of_default (Some (default.Literal (literal.Count number) Negated)) = neg_ℤ (pos number)
    of_default (Some (default.Literal (literal.Count number) sign)) = pos number
    of_default other = pos 0

-- the function of a name, whose body stands in its own module
abbrev pub function_in : Scripts → Declared → Home → Decl-F Decl → List program.Function
function_in scripts one home (decl.Function place name params «result» block) =
    if bytes_eq (whole_name home.module_name name.text) one.name then made (body_made scripts home (InFunction (result_wanted scripts home «result»)) params block) else []
  where
    signature : Signature
    signature = Written home params «result»

    made : statement.Stated → List program.Function
    made one = record {
      params = checked_or [] (params_of scripts signature);
      «result» = checked_or None (result_of scripts signature);
      locals = length one.locals;
      body = stmt_in one;
    } ∷ []
function_in scripts one home other = []

-- a function without a body gives nothing
abbrev pub no_function : program.Function
no_function = record { params = []; «result» = None; locals = 0; body = no_stmt }

abbrev pub first_or : {A : Type 0} → A → List A → A
first_or otherwise [] = otherwise
first_or otherwise (one ∷ others) = one

abbrev pub function_of : Scripts → Declared → program.Function
function_of scripts one = first_or no_function (flat_map (λ stated. function_in scripts one stated.home (out-Decl stated.decl)) scripts.stated)

abbrev pub signature_of : Declared → Signature
signature_of one = of_meant one.meant
  where
    of_meant : Meant → Signature
    of_meant (Event signature) = signature
    of_meant (Hook signature) = signature
    of_meant (Function signature) = signature
    of_meant other = Known []

-- a body of a hook or a handler, with what its name means
abbrev pub hook_body_in : Scripts → Declared → Home → Decl-F Decl → List program.HookBody
hook_body_in scripts one home (decl.Body place body.Hook name params attrs block) = of_declared (look_up scripts.names home.module_name name.text)
  where
    made : statement.Stated → List program.HookBody
    made given = record { priority = priority_of scripts home attrs; locals = length given.locals; body = stmt_in given } ∷ []

    of_declared : Option Declared → List program.HookBody
    of_declared None = []
    of_declared (Some meant) = if bytes_eq meant.name one.name then made (body_made scripts home (within_of body.Hook) params block) else []
hook_body_in scripts one home other = []

abbrev pub hook_of : Scripts → Declared → program.Hook
hook_of scripts one = record {
  params = checked_or [] (params_of scripts (signature_of one));
  bodies = flat_map (λ stated. hook_body_in scripts one stated.home (out-Decl stated.decl)) scripts.stated;
}

abbrev pub event_of : Scripts → Declared → program.Event
event_of scripts one = record { name = one.name; params = checked_or [] (params_of scripts (signature_of one)) }

abbrev pub handler_in : Scripts → Home → Decl-F Decl → List program.Handler
handler_in scripts home (decl.Body place body.Event name params attrs block) = of_declared (look_up scripts.names home.module_name name.text)
  where
    made : Declared → statement.Stated → List program.Handler
    made one given = record {
      event = record { 0 = number_among is_event scripts one };
      priority = priority_of scripts home attrs;
      locals = length given.locals;
      body = stmt_in given;
    } ∷ []

    of_declared : Option Declared → List program.Handler
    of_declared None = []
    of_declared (Some one) = made one (body_made scripts home (within_of body.Event) params block)
handler_in scripts home other = []

-- Programs ---------------------------------------------------------------------------------------------------------

abbrev pub typed_program : List File → Program
typed_program files =
    let scripts = scripts_of files in
    record {
      files = map (λ file. file.name) files;
      records = records_of scripts;
      logs = map (λ one. record { word = one.name; columns = stream_type scripts one.name }) (filter is_log_word scripts.names);
      globals = globals_from scripts 0 (variables scripts);
      functions = map (function_of scripts) (filter is_function scripts.names);
      hooks = map (hook_of scripts) (filter is_hook scripts.names);
      events = map (event_of scripts) (filter is_event scripts.names);
      handlers = flat_map (λ one. handler_in scripts one.home (out-Decl one.decl)) scripts.stated;
    }

-- scripts that break no rule have this program, and no other
pub record Typed (files : List File) (made : Program) : Type 0 where
  pub right : errors files ≡ []
  pub whole : made ≡ typed_program files
