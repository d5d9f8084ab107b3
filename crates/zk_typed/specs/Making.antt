-- The typing of constructors, calls, fields and elements (Zeek manual, Expressions; Types).
use Rattle.std.specs.Prelude.{ℕ, ◌+◌, ◌==◌, Bool, true, false, not, ◌&&◌, ◌||◌, List, [], ◌∷◌, ◌++◌, length, map, drop, Option, Some, None, Ok, Err, is_some, slice_get, if◌then◌else◌}
use Rattle.std.specs.List.{list_any, list_all}
use Rattle.std.specs.Str.{bytes_eq}
use Rattle.zk_base.specs.declared.numbers.RecordNo.{RecordNo}
use Rattle.zk_tree.specs.declared.expr.Expr.{Expr, out-Expr}
use Rattle.zk_tree.specs.declared.expr.Expr.TheOpen.{Expr-F, Part-F, Item-F}
use Rattle.zk_tree.specs.declared.expr.Expr.TheOpen as written
use Rattle.zk_tree.specs.declared.expr.Item.{Item, out-Item}
use Rattle.zk_tree.specs.declared.expr.Link.{Link}
use Rattle.zk_tree.specs.declared.expr.Literal.TheVariants as literal
use Rattle.zk_tree.specs.declared.expr.Part.{Part, out-Part}
use Rattle.zk_tree.specs.declared.name.Name.{Name}
use Rattle.zk_tree.specs.declared.operator.Assigning.TheVariants as assigning
use Rattle.zk_tree.specs.declared.operator.Container.{Container}
use Rattle.zk_tree.specs.declared.operator.Container.TheVariants as container
use Rattle.zk_tree.specs.declared.place.Place.{Place}
use Rattle.zk_typed.specs.declared.rule.Rule.{Rule}
use Rattle.zk_typed.specs.declared.rule.Rule.TheVariants as rule
use Rattle.zk_typed.specs.declared.script.primitive.BuiltIn.{BuiltIn}
use Rattle.zk_typed.specs.declared.script.primitive.BuiltIn.TheVariants as built_in
use Rattle.zk_typed.specs.declared.script.primitive.FieldNo.{FieldNo}
use Rattle.zk_typed.specs.declared.script.primitive.Primitive.TheVariants as primitive
use Rattle.zk_typed.specs.declared.script.primitive.Shape.{Shape}
use Rattle.zk_typed.specs.declared.script.types.SimpleType.{SimpleType}
use Rattle.zk_typed.specs.declared.script.types.SimpleType.TheVariants as simple
use Rattle.zk_typed.specs.Checked.{Checked, broken, along, broken_anyway, with_rule, elsewhere, ◌>>=◌, ◌>>◌, both, each, require, or_broken}
use Rattle.zk_typed.specs.Forms.{Exprs, Givens}
use Rattle.zk_typed.specs.Forms as form
use Rattle.zk_typed.specs.LogCalls.{item_expr, log_typed}
use Rattle.zk_typed.specs.Names.{Log, Declared, Meant, KnownType, WrittenType, Hook, Function, BuiltInFunction, Signature}
use Rattle.zk_typed.specs.Operations.{same_type, built_in_type}
use Rattle.zk_typed.specs.Predefined as type
use Rattle.zk_typed.specs.Predefined.{record_no}
use Rattle.zk_typed.specs.Resolving.{FieldInfo, fields_of, params_of, result_of, type_named}
use Rattle.zk_typed.specs.Types.{ValueType, Simple, Record, Table, Set, Vector}
use Rattle.zk_typed.specs.Typing.{Typed, typed, Env, at, exprs, apply, expr_place, Wanted, Nothing, Wants, Unclear, wanted_of, Check, fits, simple_type, printable, found, number_among, is_function, is_hook, on_item, left_of_in}
use Rattle.zk_tree.specs.declared.expr.Literal.{Literal}

-- Arguments ----------------------------------------------------------------------------------------------------------

abbrev pub argument : Check → Env → Wanted → Item → Checked Typed
argument check env wanted = on_item check env (check wanted)

-- the arguments that have a parameter
abbrev pub matched : Check → Env → List ValueType → List Item → Checked (List Typed)
matched check env [] items = Ok []
matched check env (param ∷ params) [] = Ok []
matched check env (param ∷ params) (item ∷ items) =
    both (argument check env (Wants param) item) (matched check env params items) >>= (λ parts. Ok (parts.0 ∷ parts.1))

-- as many items as types, or a rule is broken that those with a type hide; those past the types are judged by themselves
abbrev pub as_many : Check → Env → Rule → Place → List ValueType → List Item → Checked (List Typed)
as_many check env rule place types items =
    along (with_rule (matched check env types items) (require (length types == length items) rule place)) (each (argument check env Unclear) (drop (length types) items))

abbrev pub arguments : Check → Env → Place → Checked (List ValueType) → List Item → Checked (List Typed)
arguments check env place (Ok params) items = as_many check env rule.Arguments place params items
arguments check env place (Err rules) items = each (argument check env Unclear) items >> Err rules

-- Fields -------------------------------------------------------------------------------------------------------------

abbrev pub field_named : List ℕ → ℕ → List FieldInfo → Option (ℕ × FieldInfo)
field_named name number [] = None
field_named name number (field ∷ fields) = elim (bytes_eq field.name name) [ true ↦ Some (number, field) | false ↦ field_named name (number + 1) fields ]

-- the field of a record that a name names; its place is that of the whole expression
abbrev pub field_of : Env → Place → Name → Typed → Checked (FieldNo × ValueType)
field_of env place name one = of_type one.type
  where
    of_field : RecordNo → Option (ℕ × FieldInfo) → Checked (FieldNo × ValueType)
    of_field number None = broken rule.Field place
    of_field number (Some field) = field.1.field_type >>= (λ type. Ok (record { «record» = number; field = field.0 }, type))

    of_type : ValueType → Checked (FieldNo × ValueType)
    of_type (Record number) = of_field number (field_named name.text 0 (fields_of env.scripts number.0))
    of_type other = broken rule.WrongType place

abbrev pub is_wire : Env → FieldNo → Bool
is_wire env one = of_field (slice_get (fields_of env.scripts one.«record».0) one.field)
  where
    of_field : Option FieldInfo → Bool
    of_field None = false
    of_field (Some field) = field.wire

-- Elements -----------------------------------------------------------------------------------------------------------

-- the keys that have a type
abbrev pub fitted_keys : Env → List SimpleType → List Expr → List Typed → Checked (List Typed)
fitted_keys env (key ∷ keys) (one ∷ others) (first ∷ more) =
    both (or_broken (fits (Simple key) first) rule.WrongType (expr_place env one)) (fitted_keys env keys others more) >>= (λ parts. Ok (parts.0 ∷ parts.1))
fitted_keys env keys others more = Ok []

-- keys of these types, as many as there are
abbrev pub keys_fit : Env → Place → List SimpleType → List Expr → List Typed → Checked (List Typed)
keys_fit env place keys written values =
    fitted_keys env keys written values >>= (λ fitting.
    require (length keys == length fitting && length keys == length values) rule.WrongType place >> Ok fitting)

abbrev pub element : Env → Place → Typed → List Expr → List Typed → Checked Typed
element env place one written keys = of_type one.type
  where
    in_vector : ValueType → List Typed → Checked Typed
    in_vector item (index ∷ []) = Ok (typed item (apply primitive.Item (one ∷ index ∷ [])))
    in_vector item other = broken rule.WrongType place

    of_type : ValueType → Checked Typed
    of_type (Table types value) = keys_fit env place types written keys >>= (λ fitting. Ok (typed value (apply primitive.Element (one ∷ fitting))))
    of_type (Vector item) = keys_fit env place (simple.Count ∷ []) written keys >>= in_vector item
    of_type other = broken rule.WrongType place

-- Records ------------------------------------------------------------------------------------------------------------

-- a field that a constructor gives
pub record GivenField : Type 0 where
  pub number : ℕ
  pub wire : Bool
  pub value : Typed

-- a value that is read from a wire field for a wire field alone
abbrev pub wire_read : Env → form.Expr → Option (form.Expr × FieldNo)
wire_read env (form.Apply (primitive.Field read) (form.AndExpr «from» form.NoExpr)) = if is_wire env read then Some («from», read) else None
wire_read env other = None

abbrev pub and_given : Env → GivenField → Givens → Givens
and_given env one others = by_read one.wire (wire_read env one.value.expr)
  where
    by_read : Bool → Option (form.Expr × FieldNo) → Givens
    by_read true (Some read) = form.AndWire one.number read.0 read.1 others
    by_read wire other = form.AndField one.number one.value.expr others

abbrev pub givens : Env → List GivenField → Givens
givens env [] = form.NoField
givens env (one ∷ others) = and_given env one (givens env others)

-- an item of a constructor; its own rules stand at its `$`
abbrev pub given_field : Check → Env → List FieldInfo → Item → Checked GivenField
given_field check env fields item = of_item (out-Item item)
  where
    of_field : ℕ → Expr → Option (ℕ × FieldInfo) → Checked GivenField
    of_field place value None = broken_anyway (check Nothing value) rule.Field (at env place)
    of_field place value (Some field) = both field.1.field_type (check (wanted_of field.1.field_type) value) >>= (λ parts. Ok (record { number = field.0; wire = field.1.wire; value = parts.1 }))

    of_item : Item-F Expr Item Part Link → Checked GivenField
    of_item (written.Item::Field place name value) = of_field place value (field_named name.text 0 fields)
    of_item (written.Value value) = broken_anyway (check Nothing value) rule.WrongType (expr_place env value)

abbrev pub item_place : Env → Item → Place
item_place env item = of_item (out-Item item)
  where
    of_item : Item-F Expr Item Part Link → Place
    of_item (written.Item::Field place name value) = at env place
    of_item (written.Value value) = expr_place env value

-- no field is given twice
abbrev pub given_once : Env → List ℕ → List Item → List GivenField → Checked (Unit {0})
given_once env before (item ∷ items) (one ∷ others) =
    both (require (not (list_any (λ number. number == one.number) before)) rule.Twice (item_place env item))
    (given_once env (one.number ∷ before) items others) >> Ok tt
given_once env before items others = Ok tt

abbrev pub is_container : Checked ValueType → Bool
is_container (Ok (Simple simple)) = false
is_container (Ok (Record number)) = false
is_container (Ok other) = true
-- what a field is whose type is broken isn't known
is_container (Err rules) = true

-- a constructor needn't give the field
abbrev pub may_lack : FieldInfo → Bool
may_lack field = field.optional || is_some field.default || is_container field.field_type

abbrev pub all_given : ℕ → List FieldInfo → List GivenField → Bool
all_given number [] given = true
all_given number (field ∷ fields) given =
    (may_lack field || list_any (λ one. one.number == number) given) && all_given (number + 1) fields given

abbrev pub record_typed : Check → Env → Place → RecordNo → List Item → Checked Typed
record_typed check env place number items =
    let fields = fields_of env.scripts number.0 in
    each (given_field check env fields) items >>= (λ given.
    given_once env [] items given >>
    (require (all_given 0 fields given) rule.Field place >> Ok (typed (Record number) (form.New number (givens env given)))))

-- Containers ---------------------------------------------------------------------------------------------------------

-- a container without an expiry or a default
abbrev pub plain_shape : List SimpleType → Shape
plain_shape keys = record { keys = length keys; expiry = None; default = None }

-- the members of a container, by what each is to be
abbrev pub Members : Type 0
Members = (Expr → Checked (List Typed)) → Checked (List (List Typed))

abbrev pub members_in : Check → Env → List Item → Members
members_in check env items judge = each (on_item check env judge) items

abbrev pub one_value : Check → Wanted → Expr → Checked (List Typed)
one_value check wanted one = check wanted one >>= (λ value. Ok (value ∷ []))

-- the keys of a member: one, or several in brackets
abbrev pub bracketed : Expr → Option (ℕ × List Item)
bracketed one = of_form (out-Expr one)
  where
    of_form : Expr-F Expr Item Part Link → Option (ℕ × List Item)
    of_form (written.List place items) = Some (place, items)
    of_form other = None

abbrev pub each_key : Check → Env → Place → List SimpleType → List Item → Checked (List Typed)
each_key check env place keys items = as_many check env rule.WrongType place (map Simple keys) items

abbrev pub member_keys : Check → Env → List SimpleType → Expr → Checked (List Typed)
member_keys check env (key ∷ []) one = check (Wants (Simple key)) one >>= (λ fitting. Ok (fitting ∷ []))
member_keys check env keys one = of_brackets (bracketed one)
  where
    of_brackets : Option (ℕ × List Item) → Checked (List Typed)
    of_brackets None = broken_anyway (check Nothing one) rule.WrongType (expr_place env one)
    of_brackets (Some items) = each_key check env (at env items.0) keys items.1

abbrev pub joined : {A : Type 0} → List (List A) → List A
joined [] = []
joined (one ∷ others) = one ++ joined others

-- an entry of a table, `[k] = v`
abbrev pub entry : Check → Env → List SimpleType → ValueType → Expr → Checked (List Typed)
entry check env keys value one = of_form (out-Expr one)
  where
    wrong : Checked (List Typed)
    wrong = broken_anyway (check Nothing one) rule.WrongType (expr_place env one)

    of_brackets : Expr → Option (ℕ × List Item) → Checked (List Typed)
    of_brackets right None = wrong
    of_brackets right (Some items) =
        both (each_key check env (at env items.0) keys items.1) (check (Wants value) right) >>= (λ parts. Ok (parts.0 ++ parts.1 ∷ []))

    of_form : Expr-F Expr Item Part Link → Checked (List Typed)
    of_form (written.Assign left assigning.Set right) = of_brackets right (bracketed left)
    of_form other = wrong

-- the values of items, whatever they are items of
abbrev pub item_values : Check → Wanted → List Item → Checked (List Typed)
item_values check wanted items = each (λ item. check wanted (item_expr item)) items

-- a member where no container of its kind is wanted: an entry by its keys and its value, and what stands in brackets one by one
abbrev pub loose : Check → Env → Wanted → Expr → Checked (List Typed)
loose check env wanted one = of_form (out-Expr one)
  where
    of_keys : Option (ℕ × List Item) → Checked (List Typed)
    of_keys None = one_value check wanted one
    of_keys (Some items) = item_values check wanted items.1

    of_entry : Expr → Option (ℕ × List Item) → Checked (List Typed)
    of_entry right None = one_value check wanted one
    of_entry right (Some items) = both (each (argument check env wanted) items.1) (check wanted right) >>= (λ parts. Ok (parts.0 ++ parts.1 ∷ []))

    of_form : Expr-F Expr Item Part Link → Checked (List Typed)
    of_form (written.Assign left assigning.Set right) = of_entry right (bracketed left)
    of_form other = of_keys (bracketed one)

abbrev pub loosely : Check → Env → Container → Wanted → Expr → Checked (List Typed)
loosely check env container.Vector wanted = one_value check wanted
loosely check env other wanted = loose check env wanted

-- a container of a type that is wanted
abbrev pub wanted_container : Check → Env → Place → Container → Members → ValueType → Checked Typed
wanted_container check env place container.Table members (Table keys value) =
    members (entry check env keys value) >>= (λ parts. Ok (typed (Table keys value) (apply (primitive.NewTable (plain_shape keys)) (joined parts))))
wanted_container check env place container.Set members (Set keys) =
    members (member_keys check env keys) >>= (λ parts. Ok (typed (Set keys) (apply (primitive.NewSet (plain_shape keys)) (joined parts))))
wanted_container check env place container.Vector members (Vector item) =
    members (one_value check (Wants item)) >>= (λ parts. Ok (typed (Vector item) (apply primitive.NewVector (joined parts))))
wanted_container check env place made members other = broken_anyway (members (loosely check env made Nothing)) rule.WrongType place

abbrev pub types_same : ValueType → List Typed → Bool
types_same type others = list_all (λ one. same_type one.type type) others

-- a vector of the one type that its items have
abbrev pub vector_alone : Place → List Typed → Checked Typed
vector_alone place [] = broken rule.WrongType place
vector_alone place (first ∷ others) =
    require (types_same first.type others) rule.WrongType place >> Ok (typed (Vector first.type) (apply primitive.NewVector (first ∷ others)))

abbrev pub simple_types : Place → List Typed → Checked (List SimpleType)
simple_types place ones = each (simple_type place) ones

abbrev pub set_alone : Place → List (List Typed) → Checked Typed
set_alone place [] = broken rule.WrongType place
set_alone place (first ∷ others) = simple_types place first >>= (λ keys.
    require (list_all (λ one. length one == length first && fitting keys one) others) rule.WrongType place >>
    Ok (typed (Set keys) (apply (primitive.NewSet (plain_shape keys)) (joined (first ∷ others)))))
  where
    fitting : List SimpleType → List Typed → Bool
    fitting [] ones = true
    fitting (key ∷ keys) [] = true
    fitting (key ∷ keys) (one ∷ ones) = same_type one.type (Simple key) && fitting keys ones

abbrev pub container_alone : Check → Env → Place → Container → Members → Checked Typed
container_alone check env place container.Set members = members (left_of_in check env) >>= set_alone place
container_alone check env place container.Vector members = members (one_value check Nothing) >>= (λ parts. vector_alone place (joined parts))
container_alone check env place container.Table members = broken_anyway (members (loose check env Nothing)) rule.WrongType place

abbrev pub container_typed : Check → Env → Place → Container → Members → Wanted → Checked Typed
container_typed check env place made members Nothing = container_alone check env place made members
container_typed check env place made members Unclear = members (loosely check env made Unclear) >> elsewhere
container_typed check env place made members (Wants wanted) = wanted_container check env place made members wanted

-- braces make what is wanted
abbrev pub braces_typed : Check → Env → Place → List Expr → Wanted → Checked Typed
braces_typed check env place values wanted = of_wanted wanted
  where
    members : Members
    members judge = each judge values

    of_wanted : Wanted → Checked Typed
    of_wanted (Wants (Table keys value)) = wanted_container check env place container.Table members (Table keys value)
    of_wanted (Wants (Set keys)) = wanted_container check env place container.Set members (Set keys)
    of_wanted (Wants (Vector item)) = wanted_container check env place container.Vector members (Vector item)
    of_wanted Unclear = members (loose check env Unclear) >> elsewhere
    of_wanted other = broken_anyway (members (loose check env Nothing)) rule.WrongType place

abbrev pub brackets_typed : Check → Env → Place → List Item → Wanted → Checked Typed
brackets_typed check env place items Unclear = item_values check Unclear items >> elsewhere
brackets_typed check env place items (Wants (Record number)) = record_typed check env place number items
brackets_typed check env place items other = broken_anyway (item_values check Nothing items) rule.WrongType place

-- Calls --------------------------------------------------------------------------------------------------------------

-- a call: of what gives a value, or of a function that gives none
pub data Called : Type 0 where
  Gives : (one : Typed) → Called
  Performs : (function : ℕ) (args : List Typed) → Called

abbrev pub gives : Typed → Checked Called
gives one = Ok (Gives one)

abbrev pub built_in_call : BuiltIn → List Typed → form.Expr
built_in_call function args = apply (primitive.BuiltIn function) args

-- the verbs of a text of `fmt` that take an argument, where it has no other than `%d %s %x %%`
abbrev pub is_verb : ℕ → Bool
is_verb byte = byte == 100 || byte == 115 || byte == 120

abbrev pub with_verb : ℕ → Option (List ℕ) → Option (List ℕ)
with_verb verb None = None
with_verb verb (Some others) = Some (verb ∷ others)

abbrev mutual
  pub verbs : List ℕ → Option (List ℕ)
  verbs [] = Some []
  verbs (byte ∷ bytes) = elim (byte == 37) [ true ↦ verb_first bytes | false ↦ verbs bytes ]

  pub verb_first : List ℕ → Option (List ℕ)
  verb_first [] = None
  verb_first (verb ∷ bytes) = elim (verb == 37) [
    | true ↦ verbs bytes
    | false ↦ elim (is_verb verb) [ true ↦ with_verb verb (verbs bytes) | false ↦ None ]
  ]

-- `%d` takes a count or an int, `%x` a count, `%s` any
abbrev pub verb_takes : ℕ → ValueType → Bool
verb_takes verb one =
    verb == 115 || same_type one type.count || (verb == 100 && same_type one type.int)

abbrev pub verbs_take : List ℕ → List Typed → Bool
verbs_take [] [] = true
verbs_take [] (one ∷ ones) = false
verbs_take (verb ∷ verbs) [] = false
verbs_take (verb ∷ verbs) (one ∷ ones) = verb_takes verb one.type && verbs_take verbs ones

abbrev pub text_literal : Expr → Option (List ℕ)
text_literal one = of_form (out-Expr one)
  where
    of_literal : Literal → Option (List ℕ)
    of_literal (literal.String bytes) = Some bytes
    of_literal other = None

    of_form : Expr-F Expr Item Part Link → Option (List ℕ)
    of_form (written.Literal place one) = of_literal one
    of_form other = None

abbrev pub option_verbs : Option (List ℕ) → Option (List ℕ)
option_verbs None = None
option_verbs (Some text) = verbs text

-- values whose texts are written
abbrev pub printed : Check → Env → Expr → Checked Typed
printed check env one = check Nothing one >>= printable env one

-- the text of `fmt`, a literal, with its verbs
abbrev pub format_text : Check → Env → Expr → Checked (Typed × List ℕ)
format_text check env one = check (Wants type.string) one >>= (λ text. or_broken (option_verbs (text_literal one)) rule.Format (expr_place env one) >>= (λ verbs. Ok (text, verbs)))

abbrev pub fmt_typed : Check → Env → Place → List Item → Checked Called
fmt_typed check env place [] = broken rule.Arguments place
fmt_typed check env place (text ∷ others) =
    both (on_item check env (format_text check env) text) (each (on_item check env (printed check env)) others) >>= (λ parts.
    require (verbs_take parts.0.1 parts.1) rule.Format place >> gives (typed type.string (built_in_call built_in.Fmt (parts.0.0 ∷ parts.1))))

abbrev pub cat_typed : Check → Env → List Item → Checked Called
cat_typed check env items = each (on_item check env (printed check env)) items >>= (λ args. gives (typed type.string (built_in_call built_in.Cat args)))

-- one argument, and no other
abbrev pub lone_argument : Check → Env → Place → Item → List Item → Checked Typed
lone_argument check env place first others =
    along (with_rule (argument check env Nothing first) (require (length others == 0) rule.Arguments place)) (each (argument check env Unclear) others)

abbrev pub copy_typed : Check → Env → Place → List Item → Checked Called
copy_typed check env place [] = broken rule.Arguments place
copy_typed check env place (first ∷ others) = lone_argument check env place first others >>= (λ one. gives (typed one.type (built_in_call built_in.Copy (one ∷ []))))

abbrev pub by_row : Check → Env → Place → BuiltIn → List Item → Option (List ValueType × ValueType) → Checked Called
by_row check env place function items None = broken rule.WrongType place
by_row check env place function items (Some row) =
    arguments check env place (Ok row.0) items >>= (λ args. gives (typed row.1 (built_in_call function args)))

abbrev pub built_in_typed : Check → Env → Place → BuiltIn → List Item → Checked Called
built_in_typed check env place built_in.Fmt items = fmt_typed check env place items
built_in_typed check env place built_in.Cat items = cat_typed check env items
built_in_typed check env place built_in.Copy items = copy_typed check env place items
built_in_typed check env place function items = by_row check env place function items (built_in_type function)

abbrev pub with_result : ℕ → List Typed → Option ValueType → Checked Called
with_result number args None = Ok (Performs number args)
with_result number args (Some type) = gives (typed type (form.Call number (exprs args)))

abbrev pub function_typed : Check → Env → Place → Declared → Signature → List Item → Checked Called
function_typed check env place one signature items =
    arguments check env place (params_of env.scripts signature) items >>= (λ args.
    result_of env.scripts signature >>= with_result (number_among is_function env.scripts one) args)

-- a name that is wrong, and what is broken behind it
abbrev pub wrong_name : {A B : Type 0} → Rule → Place → Checked A → Checked B
wrong_name wrong place behind = both (broken {A = Unit {0}} wrong place) behind >> elsewhere

-- the constructor of a record type by its name
abbrev pub made_of : Check → Env → Place → List Item → ValueType → Checked Called
made_of check env place items (Record number) = record_typed check env place number items >>= gives
made_of check env place items other = wrong_name rule.WrongType place (item_values check Unclear items)

-- where the type is broken its items are judged by themselves
abbrev pub made_by : Check → Env → Place → List Item → Checked ValueType → Checked Called
made_by check env place items (Ok type) = made_of check env place items type
made_by check env place items (Err rules) = along (Err rules) (item_values check Unclear items)

-- a call of what a name means
abbrev pub call_typed : Check → Env → Name → List Item → Option Declared → Checked Called
call_typed check env name items None = wrong_name rule.Unknown (at env name.place) (each (argument check env Unclear) items)
call_typed check env name items (Some one) = of_meant one.meant
  where
    place : Place
    place = at env name.place

    of_meant : Meant → Checked Called
    of_meant (Function signature) = function_typed check env place one signature items
    of_meant (BuiltInFunction function) = built_in_typed check env place function items
    of_meant (Log function) = log_typed check env place function items >>= gives
    of_meant (KnownType type) = made_of check env place items type
    of_meant (WrittenType home tree) = made_by check env place items (type_named env.scripts env.home name)
    of_meant other = wrong_name rule.WrongType place (each (argument check env Unclear) items)

-- Hooks --------------------------------------------------------------------------------------------------------------

abbrev pub hook_typed : Check → Env → Place → Name → List Item → Option Declared → Checked Typed
hook_typed check env place name items None = wrong_name rule.Unknown (at env name.place) (each (argument check env Unclear) items)
hook_typed check env place name items (Some one) = of_meant one.meant
  where
    of_meant : Meant → Checked Typed
    of_meant (Hook signature) = arguments check env place (params_of env.scripts signature) items >>= (λ args.
        Ok (typed type.bool (form.Hook (record { 0 = number_among is_hook env.scripts one }) (exprs args))))
    of_meant other = wrong_name rule.WrongType (at env name.place) (each (argument check env Unclear) items)

-- Parts behind an expression -----------------------------------------------------------------------------------------

-- a call where a value is wanted
abbrev pub value_of : Place → Called → Checked Typed
value_of place (Gives one) = Ok one
value_of place (Performs function args) = broken rule.WrongType place

abbrev pub part_typed : Check → Env → Place → Checked Typed → Part → Checked Typed
part_typed check env place before part = of_part (out-Part part)
  where
    of_part : Part-F Expr Item Part Link → Checked Typed
    of_part (written.Part::Field name) = before >>= (λ one. field_of env place name one >>= (λ field. Ok (typed field.1 (apply (primitive.Field field.0) (one ∷ [])))))
    of_part (written.HasField name) = before >>= (λ one. field_of env place name one >>= (λ field. Ok (typed type.bool (apply (primitive.HasField field.0) (one ∷ [])))))
    of_part (written.Index keys) = both before (each (check Nothing) keys) >>= (λ parts. element env place parts.0 keys parts.1)
    of_part (written.Call items) = broken_anyway (both before (each (argument check env Nothing) items)) rule.WrongType place

abbrev pub parts_typed : Check → Env → Place → Checked Typed → List Part → Checked Typed
parts_typed check env place one [] = one
parts_typed check env place one (part ∷ parts) = parts_typed check env place (part_typed check env place one part) parts

abbrev pub called_name : Expr → List Part → Option (Name × List Item × List Part)
called_name first [] = None
called_name first (part ∷ parts) = of_both (out-Expr first) (out-Part part)
  where
    of_both : Expr-F Expr Item Part Link → Part-F Expr Item Part Link → Option (Name × List Item × List Part)
    of_both (written.Name name) (written.Call items) = Some (name, items, parts)
    of_both one other = None

abbrev pub call_of : Check → Env → Name → List Item → Checked Called
call_of check env name items = call_typed check env name items (found env name)

abbrev pub post_typed : Check → Env → Place → Expr → List Part → Option (Name × List Item × List Part) → Checked Typed
post_typed check env place first parts None = parts_typed check env place (check Nothing first) parts
post_typed check env place first parts (Some call) =
    parts_typed check env place (call_of check env call.0 call.1 >>= value_of place) call.2
