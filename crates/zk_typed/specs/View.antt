-- The forms of typed programs that the Rust types stand for.
use Rattle.std.specs.Prelude.{List, [], ◌∷◌, map}
use Rattle.std.specs.Option.{option_map}
use Rattle.zk_tree.specs.Value as value
use Rattle.zk_tree.specs.Value.{Value}
use Rattle.zk_typed.specs.declared.script.expr.Expr as declared
use Rattle.zk_typed.specs.declared.script.expr.Expr.{fold-Expr}
use Rattle.zk_typed.specs.declared.script.expr.Expr.TheOpen.{Expr-F, Given-F}
use Rattle.zk_typed.specs.declared.script.expr.Expr.TheOpen as expr
use Rattle.zk_typed.specs.declared.script.literal.Literal.{Literal}
use Rattle.zk_typed.specs.declared.script.literal.Literal.TheVariants as literal
use Rattle.zk_typed.specs.declared.script.program.Event.{Event as RustEvent}
use Rattle.zk_typed.specs.declared.script.program.Field.{Field as RustField}
use Rattle.zk_typed.specs.declared.script.program.Function.{Function as RustFunction}
use Rattle.zk_typed.specs.declared.script.program.Global.{Global as RustGlobal}
use Rattle.zk_typed.specs.declared.script.program.Handler.{Handler as RustHandler}
use Rattle.zk_typed.specs.declared.script.program.Hook.{Hook as RustHook}
use Rattle.zk_typed.specs.declared.script.program.HookBody.{HookBody as RustHookBody}
use Rattle.zk_typed.specs.declared.script.program.Program.{Program as RustProgram}
use Rattle.zk_typed.specs.declared.script.program.RecordType.{RecordType as RustRecordType}
use Rattle.zk_typed.specs.declared.script.stmt.Stmt.{fold-Stmt}
use Rattle.zk_typed.specs.declared.script.stmt.Stmt as statement
use Rattle.zk_typed.specs.declared.script.stmt.Stmt.TheOpen.{Stmt-F}
use Rattle.zk_typed.specs.declared.script.stmt.Stmt.TheOpen as stmt
use Rattle.zk_typed.specs.declared.script.types.ValueType as types
use Rattle.zk_typed.specs.declared.script.types.ValueType.{fold-ValueType}
use Rattle.zk_typed.specs.declared.script.types.ValueType.TheOpen.{ValueType-F}
use Rattle.zk_typed.specs.declared.script.types.ValueType.TheOpen as typed
use Rattle.zk_typed.specs.Forms.{Expr, Exprs, Givens, Stmt, Stmts}
use Rattle.zk_typed.specs.Forms as form
use Rattle.zk_typed.specs.Program.{Event, Field, Function, Global, Handler, Hook, HookBody, Program, RecordType}
use Rattle.zk_typed.specs.Types.{ValueType, Simple, Record, Table, Set, Vector}

-- Types ------------------------------------------------------------------------------------------------------------

abbrev pub type_step : ValueType-F ValueType → ValueType
type_step (typed.Simple simple) = Simple simple
type_step (typed.Record number) = Record number
type_step (typed.Table keys value) = Table keys value
type_step (typed.Set keys) = Set keys
type_step (typed.Vector item) = Vector item

abbrev pub type_of : types.ValueType → ValueType
type_of = fold-ValueType ValueType type_step

-- Expressions ------------------------------------------------------------------------------------------------------

-- the value that a literal names
abbrev pub literal_value : Literal → Value
literal_value (literal.Bool truth) = value.Bool truth
literal_value (literal.Count count) = value.Count count
literal_value (literal.String bytes) = value.String bytes
literal_value (literal.Interval span) = value.Interval span
literal_value (literal.Addr address) = value.Addr address
literal_value (literal.Port port proto) = value.Port port proto
literal_value (literal.Subnet prefix width) = value.Subnet prefix width
literal_value (literal.Enum word) = value.Enum word

abbrev pub exprs_of : List Expr → Exprs
exprs_of [] = form.NoExpr
exprs_of (first ∷ others) = form.AndExpr first (exprs_of others)

-- a field before others
abbrev pub Prefixed : Type 0
Prefixed = Givens → Givens

abbrev pub given_step : Given-F Expr Prefixed → Prefixed
given_step (expr.Value field value) = form.AndField field value
given_step (expr.Wire field «from» read) = form.AndWire field «from» read

abbrev pub givens_of : List Prefixed → Givens
givens_of [] = form.NoField
givens_of (first ∷ others) = first (givens_of others)

abbrev pub expr_step : Expr-F Expr Prefixed → Expr
expr_step (expr.Literal literal) = form.Constant (literal_value literal)
expr_step (expr.Local number) = form.Local number
expr_step (expr.Global number) = form.Global number
expr_step (expr.Apply primitive operands) = form.Apply primitive (exprs_of operands)
expr_step (expr.New number given) = form.New number (givens_of given)
expr_step (expr.And left right) = form.And left right
expr_step (expr.Or left right) = form.Or left right
expr_step (expr.Choice test met otherwise) = form.Choice test met otherwise
expr_step (expr.Call function operands) = form.Call function (exprs_of operands)
expr_step (expr.Hook hook operands) = form.Hook hook (exprs_of operands)
expr_step (expr.Write log row) = form.Write log row

abbrev pub expr_of : declared.Expr → Expr
expr_of = fold-Expr Expr Prefixed expr_step given_step

-- Statements -------------------------------------------------------------------------------------------------------

abbrev pub stmts_of : List Stmt → Stmts
stmts_of [] = form.NoStmt
stmts_of (first ∷ others) = form.AndStmt first (stmts_of others)

abbrev pub all_of : List declared.Expr → Exprs
all_of [] = form.NoExpr
all_of (first ∷ others) = form.AndExpr (expr_of first) (all_of others)

abbrev pub stmt_step : Stmt-F Stmt → Stmt
stmt_step (stmt.Block stmts) = form.Block (stmts_of stmts)
stmt_step (stmt.Do place action operands) = form.Do place action (all_of operands)
stmt_step (stmt.Move place to field «from» read) = form.Move place (expr_of to) field (expr_of «from») read
stmt_step (stmt.Evaluate place value) = form.Evaluate place (expr_of value)
stmt_step (stmt.Call place function operands) = form.Perform place function (all_of operands)
stmt_step (stmt.If place test met otherwise) = form.If place (expr_of test) met otherwise
stmt_step (stmt.While place test body) = form.While place (expr_of test) body
stmt_step (stmt.ForKeys place names over body) = form.ForKeys place names (expr_of over) body
stmt_step (stmt.ForIndexes place names over body) = form.ForIndexes place names (expr_of over) body
stmt_step (stmt.Return place value) = form.Return place (option_map expr_of value)
stmt_step (stmt.Next place) = form.Next place
stmt_step (stmt.Break place) = form.Break place

abbrev pub stmt_of : statement.Stmt → Stmt
stmt_of = fold-Stmt Stmt stmt_step

-- Programs ---------------------------------------------------------------------------------------------------------

abbrev pub field_of : RustField → Field
field_of field = record {
  name = field.name;
  field_type = type_of field.field_type;
  log = field.log;
  wire = field.wire;
  begins = field.begins;
}

abbrev pub record_of : RustRecordType → RecordType
record_of type = record { fields = map field_of type.fields }

abbrev pub global_of : RustGlobal → Global
global_of global = record {
  place = global.place;
  global_type = type_of global.global_type;
  initial = option_map expr_of global.initial;
  added = map expr_of global.added;
  expiry = global.expiry;
  expire_func = global.expire_func;
}

abbrev pub function_of : RustFunction → Function
function_of function = record {
  params = map type_of function.params;
  «result» = option_map type_of function.«result»;
  locals = function.locals;
  body = stmt_of function.body;
}

abbrev pub hook_body_of : RustHookBody → HookBody
hook_body_of body = record { priority = body.priority; locals = body.locals; body = stmt_of body.body }

abbrev pub hook_of : RustHook → Hook
hook_of hook = record { params = map type_of hook.params; bodies = map hook_body_of hook.bodies }

abbrev pub event_of : RustEvent → Event
event_of event = record { name = event.name; params = map type_of event.params }

abbrev pub handler_of : RustHandler → Handler
handler_of handler = record {
  event = handler.event;
  priority = handler.priority;
  locals = handler.locals;
  body = stmt_of handler.body;
}

-- the program that a value of the Rust type stands for
abbrev pub program_of : RustProgram → Program
program_of program = record {
  files = program.files;
  records = map record_of program.records;
  logs = program.logs;
  globals = map global_of program.globals;
  functions = map function_of program.functions;
  hooks = map hook_of program.hooks;
  events = map event_of program.events;
  handlers = map handler_of program.handlers;
}
