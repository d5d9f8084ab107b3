-- The typing of expressions (Zeek manual, Expressions): an expression, with the type that its place wants, has a typed form, or
-- breaks rules. Where an int is wanted a count is converted.
use Rattle.std.specs.Prelude.{ℕ, ◌+◌, ◌-◌, ◌*◌, ◌^◌, pos, Bool, true, false, ◌&&◌, List, [], ◌∷◌, ◌++◌, filter, Option, Some, None, Ok, Err, is_some, if◌then◌else◌}
use Rattle.std.specs.Int.{int_min}
use Rattle.std.specs.List.{list_all}
use Rattle.std.specs.Str.{bytes_eq}
use Rattle.zk_base.specs.declared.network.Addr.TheVariants.{V4}
use Rattle.zk_tree.specs.declared.decl.Lasting.TheVariants as lasting
use Rattle.zk_tree.specs.declared.expr.Expr.{Expr, out-Expr}
use Rattle.zk_tree.specs.declared.expr.Expr.TheOpen.{Expr-F, Part-F, Item-F}
use Rattle.zk_tree.specs.declared.expr.Expr.TheOpen as written
use Rattle.zk_tree.specs.declared.expr.Item.{Item, out-Item}
use Rattle.zk_tree.specs.declared.expr.Link.{Link, out-Link}
use Rattle.zk_tree.specs.declared.expr.Literal.{Literal}
use Rattle.zk_tree.specs.declared.expr.Literal.TheVariants as literal
use Rattle.zk_tree.specs.declared.expr.Part.{Part}
use Rattle.zk_tree.specs.declared.name.Name.{Name}
use Rattle.zk_tree.specs.declared.operator.Level.{Level}
use Rattle.zk_tree.specs.declared.operator.Level.TheVariants as level
use Rattle.zk_tree.specs.declared.operator.TimeUnit.{TimeUnit}
use Rattle.zk_tree.specs.declared.operator.TimeUnit.TheVariants as unit
use Rattle.zk_tree.specs.declared.place.Place.{Place}
use Rattle.zk_tree.specs.Places as places
use Rattle.zk_tree.specs.Value as plain
use Rattle.zk_typed.specs.declared.rule.Rule.TheVariants as rule
use Rattle.zk_typed.specs.declared.script.primitive.Binary.{Binary}
use Rattle.zk_typed.specs.declared.script.primitive.Primitive.{Primitive}
use Rattle.zk_typed.specs.declared.script.primitive.Primitive.TheVariants as primitive
use Rattle.zk_typed.specs.declared.script.primitive.Relation.{Relation}
use Rattle.zk_typed.specs.declared.script.primitive.Unary.TheVariants as unary
use Rattle.zk_typed.specs.declared.script.types.SimpleType.{SimpleType}
use Rattle.zk_typed.specs.declared.script.types.SimpleType.TheVariants as simple
use Rattle.zk_typed.specs.Checked.{Checked, broken, broken_anyway, ◌>>=◌, ◌>>◌, both, each, require, or_broken}
use Rattle.zk_typed.specs.Forms.{Exprs, Givens}
use Rattle.zk_typed.specs.Forms as form
use Rattle.zk_typed.specs.LoadOrder.{Home}
use Rattle.zk_typed.specs.Names.{Declared, Meant, Word, Variable, Event, Hook, Function, look_up, module_in, count_before}
use Rattle.zk_typed.specs.Operations.{same_type, arithmetic_of, takes_left, binary_of, relates}
use Rattle.zk_typed.specs.Predefined as type
use Rattle.zk_typed.specs.Predefined.{record_no}
use Rattle.zk_typed.specs.Resolving.{Scripts, place_in}
use Rattle.zk_typed.specs.Types.{ValueType, Simple, Table, Set, Vector}

-- a typed form and its type
pub record Typed : Type 0 where
  pub type : ValueType
  pub expr : form.Expr

abbrev pub typed : ValueType → form.Expr → Typed
typed type expr = record { type = type; expr = expr }

-- a parameter or a local; what its type is where its declaration is broken is not known
pub record LocalName : Type 0 where
  pub name : List ℕ
  pub type : Checked ValueType

-- where an expression stands
pub record Env : Type 0 where
  pub scripts : Scripts
  pub home : Home
  -- the parameters and locals that are visible, by their numbers
  pub locals : List LocalName
  -- the type of a global or a constant by its number
  pub global_type : ℕ → Checked ValueType

abbrev pub at : Env → ℕ → Place
at env byte = place_in env.home byte

-- Forms ------------------------------------------------------------------------------------------------------------

abbrev pub exprs : List Typed → Exprs
exprs [] = form.NoExpr
exprs (one ∷ others) = form.AndExpr one.expr (exprs others)

abbrev pub apply : Primitive → List Typed → form.Expr
apply one operands = form.Apply one (exprs operands)

-- the place of an expression
abbrev pub expr_place : Env → Expr → Place
expr_place env one = at env (places.expr_place one)

-- Wanted types -----------------------------------------------------------------------------------------------------

-- no type, a type, or one that isn't known for what is broken elsewhere
pub data Wanted : Type 0 where
  Nothing : Wanted
  Wants : (type : ValueType) → Wanted
  Unclear : Wanted

abbrev pub wanted_of : Checked ValueType → Wanted
wanted_of (Ok type) = Wants type
wanted_of (Err rules) = Unclear

abbrev pub to_int : Typed → Typed
to_int one = typed type.int (apply (primitive.Unary unary.ToInt) (one ∷ []))

abbrev pub fits : ValueType → Typed → Option Typed
fits wanted one =
    if same_type wanted one.type then Some one
    else (if same_type wanted type.int && same_type one.type type.count then Some (to_int one) else None)

-- what a place gets that wants a type
abbrev pub fit : Place → Wanted → Typed → Checked Typed
fit place Nothing one = Ok one
fit place Unclear one = Ok one
fit place (Wants wanted) one = or_broken (fits wanted one) rule.WrongType place

-- a value whose text `print` writes
abbrev pub simple_type : Place → Typed → Checked SimpleType
simple_type place one = of_type one.type
  where
    of_type : ValueType → Checked SimpleType
    of_type (Simple simple) = Ok simple
    of_type other = broken rule.WrongType place

abbrev pub printable : Env → Expr → Typed → Checked Typed
printable env written one = simple_type (expr_place env written) one >> Ok one

-- how the parts of an expression are checked
abbrev pub Check : Type 0
Check = Wanted → Expr → Checked Typed

-- Literals ---------------------------------------------------------------------------------------------------------

abbrev pub microseconds : TimeUnit → ℕ
microseconds unit.Microsecond = 1
microseconds unit.Millisecond = 1_000
microseconds unit.Second = 1_000_000
microseconds unit.Minute = 60_000_000
microseconds unit.Hour = 3_600_000_000
microseconds unit.Day = 86_400_000_000

-- a number with a unit; one past the longest interval is the longest
abbrev pub interval_of : ℕ → TimeUnit → plain.Value
interval_of number unit = plain.Interval (record { 0 = int_min (pos (number * microseconds unit)) (pos (2 ^ 63 - 1)) })

abbrev pub constant : ValueType → plain.Value → Typed
constant type value = typed type (form.Constant value)

abbrev pub literal_typed : Literal → Typed
literal_typed (literal.String bytes) = constant type.string (plain.String bytes)
literal_typed (literal.Port port proto) = constant type.port (plain.Port port proto)
literal_typed (literal.Address address) = constant type.addr (plain.Addr (V4 address))
literal_typed (literal.Subnet prefix width) = constant type.subnet (plain.Subnet prefix width)

-- Names ------------------------------------------------------------------------------------------------------------

abbrev pub is_variable : Declared → Bool
is_variable one = of_meant one.meant
  where
    of_meant : Meant → Bool
    of_meant (Variable home lasting tree init attrs) = true
    of_meant other = false

abbrev pub is_event : Declared → Bool
is_event one = of_meant one.meant
  where
    of_meant : Meant → Bool
    of_meant (Event signature) = true
    of_meant other = false

abbrev pub is_hook : Declared → Bool
is_hook one = of_meant one.meant
  where
    of_meant : Meant → Bool
    of_meant (Hook signature) = true
    of_meant other = false

abbrev pub is_function : Declared → Bool
is_function one = of_meant one.meant
  where
    of_meant : Meant → Bool
    of_meant (Function signature) = true
    of_meant other = false

-- the number of a declared name among those of its kind
abbrev pub number_among : (Declared → Bool) → Scripts → Declared → ℕ
number_among kind scripts one = count_before (λ other. bytes_eq other.name one.name) (filter kind scripts.names)

-- the number and the type of a local
abbrev pub local_named : List ℕ → ℕ → List LocalName → Option (ℕ × Checked ValueType)
local_named name number [] = None
local_named name number (one ∷ others) = elim (bytes_eq one.name name) [ true ↦ Some (number, one.type) | false ↦ local_named name (number + 1) others ]

-- the local that a name means: a name with `::` is one of a module's
abbrev pub local_meant : List ℕ → List LocalName → Option (ℕ × Checked ValueType)
local_meant name locals = if is_some (module_in name) then None else local_named name 0 locals

abbrev pub is_local : Env → Name → Bool
is_local env name = is_some (local_meant name.text env.locals)

-- what a name means; a local hides what else has its name, and is a variable
abbrev pub found : Env → Name → Option Declared
found env name =
    if is_local env name then Some (record { name = name.text; exported = false; meant = Variable env.home lasting.Global None None [] })
    else look_up env.scripts.names env.home.module_name name.text

-- a name that a value has; the name of an event, a hook, a function or a type has none
abbrev pub declared_value : Env → Place → Option Declared → Checked Typed
declared_value env place None = broken rule.Unknown place
declared_value env place (Some one) = of_meant one.meant
  where
    number : ℕ
    number = number_among is_variable env.scripts one

    of_meant : Meant → Checked Typed
    of_meant (Word enum) = Ok (constant (type.enum enum) (plain.Enum one.name))
    of_meant (Variable home lasting tree init attrs) = env.global_type number >>= (λ type. Ok (typed type (form.Global number)))
    of_meant other = broken rule.WrongType place

abbrev pub name_value : Env → Name → Option (ℕ × Checked ValueType) → Checked Typed
name_value env name (Some local) = local.1 >>= (λ type. Ok (typed type (form.Local local.0)))
name_value env name None = declared_value env (at env name.place) (found env name)

abbrev pub name_typed : Env → Name → Checked Typed
name_typed env name = name_value env name (local_meant name.text env.locals)

-- Operators --------------------------------------------------------------------------------------------------------

-- a count beside an int is converted
abbrev pub beside : Typed → Typed → Typed × Typed
beside a b =
    if same_type a.type type.count && same_type b.type type.int then (to_int a, b)
    else (if same_type a.type type.int && same_type b.type type.count then (a, to_int b) else (a, b))

abbrev pub arithmetic_type : Binary → ValueType → ValueType → Option SimpleType
arithmetic_type operator (Simple a) (Simple b) = arithmetic_of operator a b
arithmetic_type operator a b = None

abbrev pub arithmetic_typed : Binary → Place → Place → Typed × Typed → Checked Typed
arithmetic_typed operator first second pair = of_row (arithmetic_type operator pair.0.type pair.1.type)
  where
    of_row : Option SimpleType → Checked Typed
    of_row (Some gives) = Ok (typed (Simple gives) (apply (primitive.Binary operator) (pair.0 ∷ pair.1 ∷ [])))
    of_row None = broken rule.WrongType (if takes_left operator pair.0.type then second else first)

abbrev pub related : Relation → Place → Place → Typed × Typed → Checked Typed
related relation first second pair =
    require (relates relation pair.0.type) rule.WrongType first >>
    (require (same_type pair.0.type pair.1.type) rule.WrongType second >>
    Ok (typed type.bool (apply (primitive.Compare relation) (pair.0 ∷ pair.1 ∷ []))))

-- `a || b`, `a && b`
abbrev pub truths : Level → Typed → Typed → Typed
truths level.Or a b = typed type.bool (form.Or a.expr b.expr)
truths other a b = typed type.bool (form.And a.expr b.expr)

-- what stands before an operator, and the operand behind it
abbrev pub linked : Check → Env → Level → Place → Checked Typed → Link → Checked Typed
linked check env level place before link = by_operator (binary_of (out-Link link).operator)
  where
    behind : Expr
    behind = (out-Link link).operand

    by_operator : Option Binary → Checked Typed
    by_operator None =
        both (before >>= fit place (Wants type.bool)) (check (Wants type.bool) behind) >>= (λ pair. Ok (truths level pair.0 pair.1))
    by_operator (Some operator) =
        both before (check Nothing behind) >>= (λ pair. arithmetic_typed operator place (expr_place env behind) (beside pair.0 pair.1))

abbrev pub chained : Check → Env → Level → Place → Checked Typed → List Link → Checked Typed
chained check env level place before [] = before
chained check env level place before (link ∷ links) = chained check env level place (linked check env level place before link) links

-- `in`: keys in a table or set, a string in a string, an address in a subnet, an index in a vector
abbrev pub is_left_of_in : List Typed → Bool
is_left_of_in keys = list_all (λ key. is_simple key.type) keys
  where
    is_simple : ValueType → Bool
    is_simple (Simple simple) = true
    is_simple other = false

-- values as the keys of a table or set
abbrev pub as_keys : List SimpleType → List Typed → Option (List Typed)
as_keys [] [] = Some []
as_keys [] (one ∷ others) = None
as_keys (key ∷ keys) [] = None
as_keys (key ∷ keys) (one ∷ others) = joined (fits (Simple key) one) (as_keys keys others)
  where
    joined : Option Typed → Option (List Typed) → Option (List Typed)
    joined (Some first) (Some more) = Some (first ∷ more)
    joined first more = None

abbrev pub in_form : List Typed → Typed → Option form.Expr
in_form keys right = of_type keys right.type
  where
    key_form : Option (List Typed) → Option form.Expr
    key_form None = None
    key_form (Some fitting) = Some (apply primitive.HasKey (fitting ++ right ∷ []))

    two : Primitive → Bool → List Typed → Option form.Expr
    two one true (left ∷ []) = Some (apply one (left ∷ right ∷ []))
    two one holds other = None

    has_type : ValueType → List Typed → Bool
    has_type wanted (left ∷ []) = same_type left.type wanted
    has_type wanted other = false

    of_type : List Typed → ValueType → Option form.Expr
    of_type keys (Table types value) = key_form (as_keys types keys)
    of_type keys (Set types) = key_form (as_keys types keys)
    of_type keys (Simple simple.String) = two primitive.HasText (has_type type.string keys) keys
    of_type keys (Simple simple.Subnet) = two primitive.HasAddress (has_type type.addr keys) keys
    of_type keys (Vector item) = two primitive.HasIndex (has_type type.count keys) keys
    of_type keys other = None

abbrev pub negated : Bool → form.Expr → form.Expr
negated true one = form.Apply (primitive.Unary unary.Not) (form.AndExpr one form.NoExpr)
negated false one = one

abbrev pub membership : Bool → Place → Place → List Typed → Typed → Checked Typed
membership turned first second keys right = of_form (in_form keys right)
  where
    of_form : Option form.Expr → Checked Typed
    of_form (Some one) = Ok (typed type.bool (negated turned one))
    of_form None = broken rule.WrongType (if is_left_of_in keys then second else first)

-- An item that is to be a value. One that names a field is wrong there, unless a rule is broken in its value.
abbrev pub value_in : {A : Type 0} → Check → Env → (Expr → Checked A) → Item-F Expr Item Part Link → Checked A
value_in check env judge (written.Value value) = judge value
value_in check env judge (written.Item::Field place name value) = broken_anyway (check Nothing value) rule.WrongType (at env place)

abbrev pub on_item : {A : Type 0} → Check → Env → (Expr → Checked A) → Item → Checked A
on_item check env judge item = value_in check env judge (out-Item item)

-- keys whose types no place asks, as the left operand of `in`: several in brackets, or one
abbrev pub left_of_in : Check → Env → Expr → Checked (List Typed)
left_of_in check env one = of_form (out-Expr one)
  where
    of_items : ℕ → List Item → Checked (List Typed)
    of_items place (first ∷ second ∷ others) = each (on_item check env (check Nothing)) (first ∷ second ∷ others)
    of_items place items = broken_anyway (each (on_item check env (check Nothing)) items) rule.WrongType (at env place)

    of_form : Expr-F Expr Item Part Link → Checked (List Typed)
    of_form (written.List place items) = of_items place items
    of_form other = check Nothing one >>= (λ key. Ok (key ∷ []))
