-- The code of a program: the bodies of its handlers, its functions and its hooks, and then what computes initial values.
use Rattle.std.specs.Prelude.{ℕ, suc, ◌+◌, true, false, List, [], ◌∷◌, ◌++◌, length, Option, Some, None}
use Rattle.zk_tree.specs.declared.place.Place.{Place}
use Rattle.zk_tree.specs.Value as plain
use Rattle.zk_typed.specs.declared.script.action.Action.TheVariants as action
use Rattle.zk_typed.specs.declared.script.action.Left.TheVariants as left
use Rattle.zk_typed.specs.declared.script.primitive.Primitive.TheVariants as primitive
use Rattle.zk_typed.specs.Forms.{Expr, Exprs, Givens, Stmt, Stmts}
use Rattle.zk_typed.specs.Forms as form
use Rattle.zk_typed.specs.Meaning.{bodies_of}
use Rattle.zk_typed.specs.Program.{Program, Global, Function, Hook, HookBody, Handler}
use Rattle.zk_lower.specs.Code.{Op, BodyCode, HandlerCode, GlobalCode, Code}
use Rattle.zk_lower.specs.Code as op

-- Expressions ------------------------------------------------------------------------------------------------------

abbrev pub count : Exprs → ℕ
count form.NoExpr = 0
count (form.AndExpr first others) = suc (count others)

abbrev pub field_numbers : Givens → List ℕ
field_numbers form.NoField = []
field_numbers (form.AndField field value others) = field ∷ field_numbers others
field_numbers (form.AndWire field «from» read others) = field ∷ field_numbers others

-- one of two, by a truth value
abbrev pub choice : Place → List Op → List Op → List Op
choice place met otherwise = op.Unless place (length met + 1) ∷ (met ++ op.Jump (length otherwise) ∷ otherwise)

-- in a statement at a place
abbrev mutual
  pub expr_code : Place → Expr → List Op
  expr_code place (form.Constant value) = op.Push value ∷ []
  expr_code place (form.Local number) = op.Local place number ∷ []
  expr_code place (form.Global number) = op.Global place number ∷ []
  expr_code place (form.Apply primitive operands) = exprs_code place operands ++ op.Apply place primitive (count operands) ∷ []
  expr_code place (form.New record_no given) = givens_code place given ++ op.New place record_no (field_numbers given) ∷ []
  expr_code place (form.And left right) = expr_code place left ++ choice place (expr_code place right) (op.Push (plain.Bool false) ∷ [])
  expr_code place (form.Or left right) = expr_code place left ++ choice place (op.Push (plain.Bool true) ∷ []) (expr_code place right)
  expr_code place (form.Choice test met otherwise) = expr_code place test ++ choice place (expr_code place met) (expr_code place otherwise)
  expr_code place (form.Call function operands) = exprs_code place operands ++ op.Call place function (count operands) ∷ []
  expr_code place (form.Hook hook operands) = exprs_code place operands ++ op.Hook place hook (count operands) ∷ []
  expr_code place (form.Write log row) = expr_code place row ++ op.Write place log ∷ []

  pub exprs_code : Place → Exprs → List Op
  exprs_code place form.NoExpr = []
  exprs_code place (form.AndExpr first others) = expr_code place first ++ exprs_code place others

  -- a field marked `&wire` is read behind the record that holds it
  pub givens_code : Place → Givens → List Op
  givens_code place form.NoField = []
  givens_code place (form.AndField field value others) = expr_code place value ++ givens_code place others
  givens_code place (form.AndWire field «from» read others) = expr_code place «from» ++ op.Apply place (primitive.Field read) 1 ∷ givens_code place others

-- Statements -------------------------------------------------------------------------------------------------------

-- how many operations behind a statement `break` and `next` lead to
pub record Exits : Type 0 where
  pub «break» : ℕ
  pub next : ℕ

abbrev pub further : ℕ → Exits → Exits
further by exits = record { «break» = by + exits.«break»; next = by + exits.next }

abbrev pub given_code : Place → Option Expr → List Op
given_code place None = op.End ∷ []
given_code place (Some value) = expr_code place value ++ op.Give ∷ []

abbrev pub if_code : Place → List Op → List Op → List Op → List Op
if_code place test met otherwise = op.Tick place ∷ (test ++ choice place met otherwise)

abbrev pub while_code : Place → List Op → List Op → List Op
while_code place test body = op.Tick place ∷ op.Jump (length body) ∷ (body ++ (test ++ op.Turn place (length test + length body) ∷ []))

-- a `for`: what is gone over, the operation with which the loop begins, the body, and the one that begins a turn
abbrev pub for_code : Place → List Op → Op → List Op → (ℕ → Op) → List Op
for_code place over begin body next = op.Tick place ∷ (over ++ begin ∷ op.Jump (length body) ∷ (body ++ next (length body) ∷ op.EndLoop ∷ []))

abbrev mutual
  pub stmt_code : Exits → Stmt → List Op
  stmt_code exits (form.Block stmts) = stmts_code exits stmts
  stmt_code exits (form.Do place action operands) = op.Tick place ∷ (exprs_code place operands ++ op.Do place action (count operands) ∷ [])
  stmt_code exits (form.Move place to number «from» read) =
      op.Tick place ∷ (expr_code place «from» ++ op.Apply place (primitive.Field read) 1 ∷ (expr_code place to ++ op.Do place (action.Assign (left.Field number)) 2 ∷ []))
  stmt_code exits (form.Evaluate place value) = op.Tick place ∷ (expr_code place value ++ op.Drop ∷ [])
  stmt_code exits (form.Perform place function operands) = op.Tick place ∷ (exprs_code place operands ++ op.Perform place function (count operands) ∷ [])
  stmt_code exits (form.If place test met otherwise) = if_code place (expr_code place test)
      (stmt_code (further (length (stmt_code exits otherwise) + 1) exits) met)
      (stmt_code exits otherwise)
  stmt_code exits (form.While place test body) = while_code place (expr_code place test)
      (stmt_code (record { «break» = length (expr_code place test) + 1; next = 0 }) body)
  stmt_code exits (form.ForKeys place names over body) = for_code place (expr_code place over) (op.BeginKeys place)
      (stmt_code (record { «break» = 1; next = 0 }) body) (op.NextKey place names)
  stmt_code exits (form.ForIndexes place names over body) = for_code place (expr_code place over) (op.BeginIndexes place)
      (stmt_code (record { «break» = 1; next = 0 }) body) (op.NextIndex place names)
  stmt_code exits (form.Return place value) = op.Tick place ∷ given_code place value
  stmt_code exits (form.Next place) = op.Tick place ∷ op.Jump exits.next ∷ []
  stmt_code exits (form.Break place) = op.Tick place ∷ op.Jump exits.«break» ∷ []

  pub stmts_code : Exits → Stmts → List Op
  stmts_code exits form.NoStmt = []
  stmts_code exits (form.AndStmt first others) = stmt_code (further (length (stmts_code exits others)) exits) first ++ stmts_code exits others

-- Bodies -----------------------------------------------------------------------------------------------------------

-- a `break` out of the body ends it by the last operation
abbrev pub body_code : Stmt → List Op
body_code body = stmt_code (record { «break» = 1; next = 0 }) body ++ op.End ∷ op.Break ∷ []

abbrev pub added_code : Place → List Expr → List Op
added_code place [] = []
added_code place (one ∷ others) = expr_code place one ++ op.Sum place ∷ added_code place others

abbrev pub initial_code : ℕ → Global → Option Expr → List Op
initial_code number global None = []
initial_code number global (Some initial) =
    expr_code global.place initial ++ (added_code global.place global.added ++ op.Do global.place (action.Assign (left.Global number)) 1 ∷ op.End ∷ [])

-- Programs ---------------------------------------------------------------------------------------------------------

-- the code of all of them, one after another
abbrev pub laid : {A : Type 0} → (A → List Op) → List A → List Op
laid code [] = []
laid code (one ∷ others) = code one ++ laid code others

-- what is found with each of them, whose code begins at a place
abbrev pub placed : {A B : Type 0} → (A → List Op) → (ℕ → A → B) → ℕ → List A → List B
placed code found at [] = []
placed code found at (one ∷ others) = found at one ∷ placed code found (at + length (code one)) others

abbrev pub handler_ops : Handler → List Op
handler_ops handler = body_code handler.body

abbrev pub function_ops : Function → List Op
function_ops function = body_code function.body

abbrev pub hook_body_ops : HookBody → List Op
hook_body_ops body = body_code body.body

-- by falling priority and then in load order
abbrev pub hook_ops : Hook → List Op
hook_ops hook = laid hook_body_ops (bodies_of (Some hook))

-- the numbers of globals, from one on
abbrev pub initials_code : ℕ → List Global → List Op
initials_code number [] = []
initials_code number (one ∷ others) = initial_code number one one.initial ++ initials_code (number + 1) others

abbrev pub handler_found : ℕ → Handler → HandlerCode
handler_found at handler = record {
  event = handler.event;
  priority = handler.priority;
  body = record { entry = at; locals = handler.locals };
}

abbrev pub function_found : ℕ → Function → BodyCode
function_found at function = record { entry = at; locals = function.locals }

abbrev pub hook_body_found : ℕ → HookBody → BodyCode
hook_body_found at body = record { entry = at; locals = body.locals }

abbrev pub hook_found : ℕ → Hook → List BodyCode
hook_found at hook = placed hook_body_ops hook_body_found at (bodies_of (Some hook))

abbrev pub entry_of : ℕ → Option Expr → Option ℕ
entry_of at None = None
entry_of at (Some initial) = Some at

abbrev pub globals_found : ℕ → ℕ → List Global → List GlobalCode
globals_found at number [] = []
globals_found at number (one ∷ others) = record {
  place = one.place;
  initial = entry_of at one.initial;
  expiry = one.expiry;
  expire_func = one.expire_func;
} ∷ globals_found (at + length (initial_code number one one.initial)) (number + 1) others

abbrev pub handlers_ops : Program → List Op
handlers_ops program = laid handler_ops program.handlers

abbrev pub functions_ops : Program → List Op
functions_ops program = laid function_ops program.functions

abbrev pub hooks_ops : Program → List Op
hooks_ops program = laid hook_ops program.hooks

abbrev pub functions_at : Program → ℕ
functions_at program = length (handlers_ops program)

abbrev pub hooks_at : Program → ℕ
hooks_at program = functions_at program + length (functions_ops program)

abbrev pub globals_at : Program → ℕ
globals_at program = hooks_at program + length (hooks_ops program)

abbrev pub lowered : Program → Code
lowered program = record {
  files = program.files;
  records = program.records;
  logs = program.logs;
  ops = handlers_ops program ++ (functions_ops program ++ (hooks_ops program ++ initials_code 0 program.globals));
  globals = globals_found (globals_at program) 0 program.globals;
  functions = placed function_ops function_found (functions_at program) program.functions;
  hooks = placed hook_ops hook_found (hooks_at program) program.hooks;
  handlers = placed handler_ops handler_found 0 program.handlers;
}
