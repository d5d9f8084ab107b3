-- The typing of statements (Zeek manual, Statements). A local is visible from the end of its statement to the end of its body,
-- so what is visible is handed on from statement to statement, through blocks and loops.
use Rattle.std.specs.Prelude.{ℕ, zero, suc, ◌==◌, Bool, true, false, not, ◌||◌, List, [], ◌∷◌, ◌++◌, length, map, Option, Some, None, Ok, Err, is_some, if◌then◌else◌}
use Rattle.zk_base.specs.declared.numbers.EventNo.{EventNo}
use Rattle.zk_tree.specs.declared.expr.Expr.{Expr, out-Expr}
use Rattle.zk_tree.specs.declared.expr.Expr.TheOpen.{Expr-F, Part-F}
use Rattle.zk_tree.specs.declared.expr.Expr.TheOpen as written
use Rattle.zk_tree.specs.declared.expr.Item.{Item}
use Rattle.zk_tree.specs.declared.expr.Link.{Link}
use Rattle.zk_tree.specs.declared.expr.Part.{Part, out-Part}
use Rattle.zk_tree.specs.declared.name.Name.{Name}
use Rattle.zk_tree.specs.declared.operator.Assigning.{Assigning}
use Rattle.zk_tree.specs.declared.operator.Assigning.TheVariants as assigning
use Rattle.zk_tree.specs.declared.place.Place.{Place}
use Rattle.zk_tree.specs.declared.stmt.Block.{Block, out-Block}
use Rattle.zk_tree.specs.declared.stmt.Init.{Init}
use Rattle.zk_tree.specs.declared.stmt.Init.TheVariants as init
use Rattle.zk_tree.specs.declared.stmt.Keys.{Keys}
use Rattle.zk_tree.specs.declared.stmt.Keys.TheVariants as keys
use Rattle.zk_tree.specs.declared.stmt.Stmt.{Stmt, out-Stmt}
use Rattle.zk_tree.specs.declared.stmt.Stmt.TheOpen.{Stmt-F}
use Rattle.zk_tree.specs.declared.stmt.Stmt.TheOpen as stmt
use Rattle.zk_tree.specs.declared.types.Type.{«Type»}
use Rattle.zk_tree.specs.Places as places
use Rattle.zk_typed.specs.declared.rule.Rule.TheVariants as rule
use Rattle.zk_typed.specs.declared.script.action.Action.{Action}
use Rattle.zk_typed.specs.declared.script.action.Action.TheVariants as action
use Rattle.zk_typed.specs.declared.script.action.Left.{Left}
use Rattle.zk_typed.specs.declared.script.action.Left.TheVariants as left
use Rattle.zk_typed.specs.declared.script.primitive.Binary.{Binary}
use Rattle.zk_typed.specs.declared.script.primitive.Binary.TheVariants.{Plus, Minus}
use Rattle.zk_typed.specs.declared.script.primitive.FieldNo.{FieldNo}
use Rattle.zk_typed.specs.declared.script.primitive.Primitive.TheVariants as primitive
use Rattle.zk_typed.specs.declared.script.stmt.Names.{Names}
use Rattle.zk_typed.specs.declared.script.types.SimpleType.{SimpleType}
use Rattle.zk_typed.specs.Checked.{Checked, broken, broken_anyway, elsewhere, ◌>>=◌, ◌>>◌, both, each, require}
use Rattle.zk_typed.specs.Expressions.{Side, left_side, assignable, added_type, rest_of, expr_typed}
use Rattle.zk_typed.specs.Forms as form
use Rattle.zk_typed.specs.LoadOrder.{Home}
use Rattle.zk_typed.specs.Making.{Called, Gives, Performs, arguments, argument, wrong_name, printed, keys_fit, post_typed, call_of, called_name, braces_typed, plain_shape, is_wire, wire_read}
use Rattle.zk_typed.specs.Names.{Declared, Meant, Event}
use Rattle.zk_typed.specs.Operations.{same_type}
use Rattle.zk_typed.specs.Predefined as type
use Rattle.zk_typed.specs.Resolving.{Scripts, params_of, type_of, hushed}
use Rattle.zk_typed.specs.Types.{ValueType, Simple, Record, Table, Set, Vector}
use Rattle.zk_typed.specs.Within.{depth_max, mentions}
use Rattle.zk_typed.specs.Typing.{Typed, Env, LocalName, Wanted, Nothing, Wants, Unclear, wanted_of, Check, at, exprs, expr_place, found, is_event, number_among, local_named, local_meant}

-- what a body is of: a function with what its result has to be, a hook, or a handler
pub data Within : Type 0 where
  InFunction : (gives : Option Wanted) → Within
  InHook : Within
  InHandler : Within

-- the body that statements stand in, and whether they stand in a loop of it
pub record Context : Type 0 where
  pub scripts : Scripts
  pub home : Home
  pub global_type : ℕ → Checked ValueType
  pub within : Within
  pub in_loop : Bool

abbrev pub Locals : Type 0
Locals = List LocalName

abbrev pub env_of : Context → Locals → Env
env_of context locals = record { scripts = context.scripts; home = context.home; locals = locals; global_type = context.global_type }

abbrev pub looping : Context → Context
looping context = record context { in_loop = true }

-- a statement's typed form, and the names that are visible after it
pub record Stated : Type 0 where
  pub made : Checked form.Stmt
  pub locals : Locals

abbrev pub stated : Checked form.Stmt → Locals → Stated
stated made locals = record { made = made; locals = locals }

abbrev pub check_in : Context → Locals → Check
check_in context locals = expr_typed (env_of context locals)

abbrev pub place_of : Context → ℕ → Place
place_of context byte = at (env_of context []) byte

-- Initial values ---------------------------------------------------------------------------------------------------

abbrev pub init_typed : Env → Wanted → Init → Checked Typed
init_typed env wanted (init.Value one) = expr_typed env wanted one
init_typed env wanted (init.Braces place values comma) = braces_typed (expr_typed env) env (at env place) values wanted

-- the empty value of a container's type
abbrev pub empty_of : ValueType → Option form.Expr
empty_of (Table keys value) = Some (form.Apply (primitive.NewTable (plain_shape keys)) form.NoExpr)
empty_of (Set keys) = Some (form.Apply (primitive.NewSet (plain_shape keys)) form.NoExpr)
empty_of (Vector item) = Some (form.Apply primitive.NewVector form.NoExpr)
empty_of (Record number) = None
empty_of (Simple one) = None

-- Assignments ------------------------------------------------------------------------------------------------------

-- a wire field that gets the value of a wire field takes it by a form of its own
abbrev pub assigned : Env → Place → Side → Typed → form.Stmt
assigned env place side one = of_left side.left side.operands (wire_read env one.expr)
  where
    plainly : form.Stmt
    plainly = form.Do place (action.Assign side.left) (form.AndExpr one.expr side.operands)

    moved : FieldNo → form.Expr → form.Expr × FieldNo → form.Stmt
    moved field to read = if is_wire env field then form.Move place to field read.0 read.1 else plainly

    of_left : Left → form.Exprs → Option (form.Expr × FieldNo) → form.Stmt
    of_left (left.Field field) (form.AndExpr to form.NoExpr) (Some read) = moved field to read
    of_left other operands read = plainly

abbrev pub binary_of : Assigning → Binary
binary_of assigning.Subtract = Minus
binary_of other = Plus

abbrev pub added : Check → Place → Place → Assigning → Side → Expr → Option ValueType → Checked form.Stmt
added check place left_place by side right None = broken_anyway (check Nothing right) rule.WrongType left_place
added check place left_place by side right (Some wanted) = check (Wants wanted) right >>= (λ one.
    assignable place side >> Ok (form.Do place (action.Update side.left (binary_of by)) (form.AndExpr one.expr side.operands)))

abbrev pub assignment : Check → Env → Place → Expr → Assigning → Expr → Checked form.Stmt
assignment check env place left by right = rest_of check right (left_side check env left) >>= by_operator by
  where
    by_operator : Assigning → Side → Checked form.Stmt
    by_operator assigning.Set side = check (Wants side.type) right >>= (λ one. assignable place side >> Ok (assigned env place side one))
    by_operator by side = added check place (expr_place env left) by side right (added_type by side.type)

-- Elements of sets and tables --------------------------------------------------------------------------------------

-- an expression without its last part, where that is an index
abbrev pub indexed : List Part → Option (List Part × List Expr)
indexed [] = None
indexed (part ∷ []) = of_part (out-Part part)
  where
    of_part : Part-F Expr Item Part Link → Option (List Part × List Expr)
    of_part (written.Index keys) = Some ([], keys)
    of_part other = None
indexed (part ∷ parts) = behind (indexed parts)
  where
    behind : Option (List Part × List Expr) → Option (List Part × List Expr)
    behind None = None
    behind (Some found) = Some (part ∷ found.0, found.1)

-- the key types of a set, and of a table where it may be one
abbrev pub keys_in : Bool → ValueType → Option (List SimpleType)
keys_in tables (Set keys) = Some keys
keys_in true (Table keys value) = Some keys
keys_in tables other = None

abbrev pub element_of : Check → Env → Place → Bool → Expr → Checked form.Exprs
element_of check env place tables one = of_form (out-Expr one)
  where
    of_keys : List Expr → Typed × List Typed → Option (List SimpleType) → Checked form.Exprs
    of_keys written parts None = broken rule.WrongType place
    of_keys written parts (Some types) = keys_fit env place types written parts.1 >>= (λ fitting. Ok (form.AndExpr parts.0.expr (exprs fitting)))

    of_index : Expr → Option (List Part × List Expr) → Checked form.Exprs
    of_index first None = broken_anyway (check Nothing one) rule.WrongType place
    of_index first (Some found) =
        both (post_typed check env (expr_place env first) first found.0 (called_name first found.0)) (each (check Nothing) found.1) >>= (λ parts.
        of_keys found.1 parts (keys_in tables parts.0.type))

    of_form : Expr-F Expr Item Part Link → Checked form.Exprs
    of_form (written.Post first parts) = of_index first (indexed parts)
    of_form other = broken_anyway (check Nothing one) rule.WrongType place

-- Events -----------------------------------------------------------------------------------------------------------

abbrev pub event_args : Check → Env → Place → Name → List Item → Option Declared → Checked (EventNo × List Typed)
event_args check env place name items None = wrong_name rule.Unknown (at env name.place) (each (argument check env Unclear) items)
event_args check env place name items (Some one) = of_meant one.meant
  where
    of_meant : Meant → Checked (EventNo × List Typed)
    of_meant (Event signature) =
        arguments check env place (params_of env.scripts signature) items >>= (λ args. Ok (record { 0 = number_among is_event env.scripts one }, args))
    of_meant other = wrong_name rule.WrongType (at env name.place) (each (argument check env Unclear) items)

-- Loops ------------------------------------------------------------------------------------------------------------

abbrev pub key_names : Keys → List Name
key_names (keys.One name) = name ∷ []
key_names (keys.Several names) = names

-- a name of a `for` is a visible local or parameter, whose type must fit, or else a new local
abbrev pub for_name : Context → Locals → Name → Checked ValueType → Checked ℕ × Locals
for_name context locals name given = of_local (local_named name.text 0 locals)
  where
    of_local : Option (ℕ × Checked ValueType) → Checked ℕ × Locals
    of_local None = (Ok (length locals), locals ++ record { name = name.text; type = given } ∷ [])
    of_local (Some local) =
        (both local.1 given >>= (λ types. require (same_type types.0 types.1) rule.WrongType (place_of context name.place) >> Ok local.0), locals)

abbrev pub for_names : Context → Locals → List Name → List (Checked ValueType) → Checked (List ℕ) × Locals
for_names context locals [] types = (Ok [], locals)
for_names context locals (name ∷ names) [] = (elsewhere, locals)
for_names context locals (name ∷ names) (type ∷ types) =
    let first = for_name context locals name type in
    let others = for_names context first.1 names types in
    (both first.0 others.0 >>= (λ parts. Ok (parts.0 ∷ parts.1)), others.1)

-- the types of the keys and of the value that a `for` gives over a type
abbrev pub for_types : ValueType → Option (List ValueType × Option ValueType)
for_types (Table keys value) = Some (map Simple keys, Some value)
for_types (Set keys) = Some (map Simple keys, None)
for_types (Vector item) = Some (type.count ∷ [], Some item)
for_types other = None

abbrev pub is_vector : ValueType → Bool
is_vector (Vector item) = true
is_vector other = false

-- all names of a `for` with their types, where they are as many as are given
abbrev pub wanted_names : Keys → Option Name → List Name
wanted_names keys None = key_names keys
wanted_names keys (Some name) = key_names keys ++ name ∷ []

abbrev pub for_over : Context → ℕ → Place → Keys → Option Name → Typed → Checked (List ValueType)
for_over context place over_place keys named one = of_types (for_types one.type)
  where
    with_value : List ValueType → Option ValueType → Option Name → Checked (List ValueType)
    with_value types value None = Ok types
    with_value types (Some value) (Some name) = Ok (types ++ value ∷ [])
    with_value types None (Some name) = broken rule.WrongType (place_of context name.place)

    of_types : Option (List ValueType × Option ValueType) → Checked (List ValueType)
    of_types None = broken rule.WrongType over_place
    of_types (Some types) =
        require (length types.0 == length (key_names keys)) rule.WrongType (place_of context place) >> with_value types.0 types.1 named

abbrev pub unknown_types : List Name → List (Checked ValueType)
unknown_types names = map (λ name. elsewhere) names

abbrev pub types_or_unknown : List Name → Checked (List ValueType) → List (Checked ValueType)
types_or_unknown names (Ok types) = map Ok types
types_or_unknown names (Err rules) = unknown_types names

-- the last of the numbers is that of the value, where there is one
abbrev pub as_names : Option Name → List ℕ → Names
as_names None numbers = record { keys = numbers; value = None }
as_names (Some name) numbers = split numbers
  where
    with_key : ℕ → Names → Names
    with_key number names = record names { keys = number ∷ names.keys }

    split : List ℕ → Names
    split [] = record { keys = []; value = None }
    split (last ∷ []) = record { keys = []; value = Some last }
    split (number ∷ numbers) = with_key number (split numbers)

-- Statements -------------------------------------------------------------------------------------------------------

abbrev pub do_with : Place → Action → form.Exprs → Checked form.Stmt
do_with place action operands = Ok (form.Do place action operands)

-- the type that a `local` is declared with, whose names no local hides
abbrev pub local_type : Context → Locals → Option «Type» → Option (Checked ValueType)
local_type context locals None = None
local_type context locals (Some tree) = Some (each seen (mentions tree) >> type_of context.scripts context.home tree)
  where
    seen : Name → Checked (Unit {0})
    seen name = require (not (is_some (local_meant name.text locals))) rule.WrongType (place_of context name.place)

abbrev pub local_wants : Option (Checked ValueType) → Wanted
local_wants None = Nothing
local_wants (Some type) = wanted_of type

-- what a `local` begins with: its value, or the empty value of its type, or none
abbrev pub local_begin : Place → ℕ → ValueType → form.Stmt
local_begin place number type = of_empty (empty_of type)
  where
    of_empty : Option form.Expr → form.Stmt
    of_empty None = form.Do place (action.Forget number) form.NoExpr
    of_empty (Some empty) = form.Do place (action.Assign (left.Local number)) (form.AndExpr empty form.NoExpr)

abbrev pub local_value : Context → Locals → Place → Option (Checked ValueType) → Option Init → Checked (ValueType × form.Stmt)
local_value context locals place None None = broken rule.WrongType place
local_value context locals place (Some type) None = type >>= (λ one. Ok (one, local_begin place (length locals) one))
local_value context locals place type (Some init) = both (declared type) (init_typed (env_of context locals) (local_wants type) init) >>= (λ parts.
    Ok (parts.1.type, form.Do place (action.Assign (left.Local (length locals))) (form.AndExpr parts.1.expr form.NoExpr)))
  where
    declared : Option (Checked ValueType) → Checked (Unit {0})
    declared None = Ok tt
    declared (Some type) = type >> Ok tt

-- A type that is written counts though the value beside it is broken.
abbrev pub type_for : Option (Checked ValueType) → Checked (ValueType × form.Stmt) → Checked ValueType
type_for (Some type) made = hushed type
type_for None (Ok made) = Ok made.0
type_for None (Err rules) = elsewhere

-- The rules of the statement itself, once its parts are right. One without a type and a value has no part, and breaks a rule.
abbrev pub local_whole : Option «Type» → Option Init → Checked (Unit {0}) → Checked (ValueType × form.Stmt) → Checked form.Stmt
local_whole None None twice made = both twice made >>= (λ parts. Ok parts.1.1)
local_whole tree init twice made = made >>= (λ one. twice >> Ok one.1)

abbrev pub local_stated : Context → Locals → ℕ → Name → Option «Type» → Option Init → Stated
local_stated context locals place name tree init =
    let type = local_type context locals tree in
    let made = local_value context locals (place_of context place) type init in
    let twice = require (not (is_some (local_named name.text 0 locals))) rule.Twice (place_of context place) in
    stated (local_whole tree init twice made) (locals ++ record { name = name.text; type = type_for type made } ∷ [])

abbrev pub return_typed : Context → Check → Place → Option Expr → Checked form.Stmt
return_typed context check place value = of_both context.within value
  where
    of_both : Within → Option Expr → Checked form.Stmt
    of_both (InFunction (Some wanted)) (Some one) = check wanted one >>= (λ given. Ok (form.Return place (Some given.expr)))
    of_both (InFunction (Some wanted)) None = broken rule.Return place
    of_both other (Some one) = broken_anyway (check Nothing one) rule.Return place
    of_both other None = Ok (form.Return place None)

abbrev pub breaks : Context → Bool
breaks context = context.in_loop || is_hook context.within
  where
    is_hook : Within → Bool
    is_hook InHook = true
    is_hook other = false

-- an expression that stands as a statement: an assignment, a call of a function without a result, or a value that isn't used
abbrev pub expr_stmt : Check → Env → Expr → Checked form.Stmt
expr_stmt check env one = of_form (out-Expr one)
  where
    place : Place
    place = expr_place env one

    evaluated : Checked form.Stmt
    evaluated = check Nothing one >>= (λ given. Ok (form.Evaluate place given.expr))

    of_called : Called → Checked form.Stmt
    of_called (Gives given) = Ok (form.Evaluate place given.expr)
    of_called (Performs function args) = Ok (form.Perform place function (exprs args))

    of_call : Option (Name × List Item × List Part) → Checked form.Stmt
    of_call (Some (name, items, [])) = call_of check env name items >>= of_called
    of_call other = evaluated

    of_form : Expr-F Expr Item Part Link → Checked form.Stmt
    of_form (written.Assign left operator right) = assignment check env place left operator right
    of_form (written.Post first parts) = of_call (called_name first parts)
    of_form other = evaluated

abbrev pub Judge : Type 0
Judge = Context → Locals → Stmt → Stated

abbrev pub stmts_typed : Judge → Context → Locals → List Stmt → Checked form.Stmts × Locals
stmts_typed judge context locals [] = (Ok form.NoStmt, locals)
stmts_typed judge context locals (one ∷ others) =
    let first = judge context locals one in
    let more = stmts_typed judge context first.locals others in
    (both first.made more.0 >>= (λ parts. Ok (form.AndStmt parts.0 parts.1)), more.1)

abbrev pub block_typed : Judge → Context → Locals → Block → Stated
block_typed judge context locals block =
    let all = stmts_typed judge context locals (out-Block block).stmts in
    stated (all.0 >>= (λ stmts. Ok (form.Block stmts))) all.1

abbrev pub no_stmt : form.Stmt
no_stmt = form.Block form.NoStmt

abbrev pub if_typed : Judge → Context → Locals → ℕ → Expr → Stmt → Option Stmt → Stated
if_typed judge context locals place test one other =
    let condition = check_in context locals (Wants type.bool) test in
    let first = judge context locals one in
    let second = of_other first.locals other in
    stated (both condition (both first.made second.made) >>= (λ parts. Ok (form.If (place_of context place) parts.0.expr parts.1.0 parts.1.1))) second.locals
  where
    of_other : Locals → Option Stmt → Stated
    of_other after None = stated (Ok no_stmt) after
    of_other after (Some stmt) = judge context after stmt

abbrev pub while_typed : Judge → Context → Locals → ℕ → Expr → Stmt → Stated
while_typed judge context locals place test body =
    let inner = judge (looping context) locals body in
    stated (both (check_in context locals (Wants type.bool) test) inner.made >>= (λ parts. Ok (form.While (place_of context place) parts.0.expr parts.1))) inner.locals

-- the expression sees the names outside
abbrev pub for_typed : Judge → Context → Locals → ℕ → Keys → Option Name → Expr → Stmt → Stated
for_typed judge context locals place keys named over body =
    let one = check_in context locals Nothing over in
    let types = one >>= for_over context place (expr_place (env_of context locals) over) keys named in
    let names = for_names context locals (wanted_names keys named) (types_or_unknown (wanted_names keys named) types) in
    let inner = judge (looping context) names.1 body in
    stated (both (both one types) (both names.0 inner.made) >>= (λ parts. Ok (loop parts.0.0 (as_names named parts.1.0) parts.1.1))) inner.locals
  where
    loop : Typed → Names → form.Stmt → form.Stmt
    loop one names made =
        if is_vector one.type then form.ForIndexes (place_of context place) names one.expr made else form.ForKeys (place_of context place) names one.expr made

-- a statement that nests too deep, as none does that a machine holds, is told
abbrev pub stmt_to : ℕ → Judge
stmt_to zero context locals one = stated (broken rule.WrongType (place_of context (places.stmt_place one))) locals
stmt_to (suc depth) context locals one = of_form (stmt_to depth) (out-Stmt one)
  where
    env : Env
    env = env_of context locals

    check : Check
    check = expr_typed env

    at_place : ℕ → Place
    at_place = place_of context

    same : Checked form.Stmt → Stated
    same made = stated made locals

    delayed : Checked Typed → Checked (EventNo × List Typed) → Place → Checked form.Stmt
    delayed delay event place = both delay event >>= (λ parts. do_with place (action.Schedule parts.1.0) (exprs (parts.0 ∷ parts.1.1)))

    events : ℕ → Name → List Item → Checked (EventNo × List Typed)
    events place name items = event_args check env (at_place place) name items (found env name)

    of_form : Judge → Stmt-F Stmt Block → Stated
    of_form judge (stmt.Block block) = block_typed judge context locals block
    of_form judge (stmt.Empty place) = same (Ok no_stmt)
    of_form judge (stmt.If place test first) = if_typed judge context locals place test first None
    of_form judge (stmt.IfElse place test first second) = if_typed judge context locals place test first (Some second)
    of_form judge (stmt.While place test body) = while_typed judge context locals place test body
    of_form judge (stmt.For place keys value over body) = for_typed judge context locals place keys value over body
    of_form judge (stmt.Local place name tree init) = local_stated context locals place name tree init
    of_form judge (stmt.Print place values) = same (each (printed check env) values >>= (λ ones. do_with (at_place place) action.Print (exprs ones)))
    of_form judge (stmt.Event place name items) = same (events place name items >>= (λ parts. do_with (at_place place) (action.Queue parts.0) (exprs parts.1)))
    of_form judge (stmt.Schedule place delay name items) = same (delayed (check (Wants type.interval) delay) (events place name items) (at_place place))
    of_form judge (stmt.Add place element) = same (element_of check env (at_place place) false element >>= do_with (at_place place) action.Add)
    of_form judge (stmt.Delete place element) = same (element_of check env (at_place place) true element >>= do_with (at_place place) action.Delete)
    of_form judge (stmt.Return place value) = same (return_typed context check (at_place place) value)
    of_form judge (stmt.Next place) = same (require context.in_loop rule.Break (at_place place) >> Ok (form.Next (at_place place)))
    of_form judge (stmt.Break place) = same (require (breaks context) rule.Break (at_place place) >> Ok (form.Break (at_place place)))
    of_form judge (stmt.Expr value) = same (expr_stmt check env value)

-- the statements of a body, beside the names that are visible at its start
abbrev pub body_typed : Context → Locals → Block → Stated
body_typed context locals block = block_typed (stmt_to depth_max) context locals block
