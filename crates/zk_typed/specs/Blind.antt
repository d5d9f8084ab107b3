-- Programs that do not depend on how streams were cut into packets: they handle no `packet_seen`, and read a field marked `&wire`
-- only to give another such field its value. `&wire` is this project's own.
use Rattle.std.specs.Prelude.{◌==◌, Bool, true, false, not, ◌&&◌, Option, Some, None, slice_get}
use Rattle.std.specs.List.{list_all}
use Rattle.zk_typed.specs.declared.script.action.Action.{Action}
use Rattle.zk_typed.specs.declared.script.action.Action.TheVariants as action
use Rattle.zk_typed.specs.declared.script.action.Left.{Left}
use Rattle.zk_typed.specs.declared.script.action.Left.TheVariants as left
use Rattle.zk_typed.specs.declared.script.primitive.FieldNo.{FieldNo}
use Rattle.zk_typed.specs.declared.script.primitive.Primitive.{Primitive}
use Rattle.zk_typed.specs.declared.script.primitive.Primitive.TheVariants as primitive
use Rattle.zk_typed.specs.Columns.{record_fields}
use Rattle.zk_typed.specs.Forms.{Expr, Exprs, Givens, Stmt, Stmts}
use Rattle.zk_typed.specs.Forms as form
use Rattle.zk_typed.specs.Predefined.{packet_seen}
use Rattle.zk_typed.specs.Program.{Program, Field, Global, Hook, Handler}

abbrev pub is_wire : Program → FieldNo → Bool
is_wire program one = of_field (slice_get (record_fields program one.«record») one.field)
  where
    of_field : Option Field → Bool
    of_field None = false
    of_field (Some field) = field.wire

-- a left side whose value is read is no wire field
abbrev pub reads_none : Program → Left → Bool
reads_none program (left.Field field) = not (is_wire program field)
reads_none program other = true

-- `$`, `?$`, `++`, `--`, `+=` and `-=` read
abbrev pub primitive_blind : Program → Primitive → Bool
primitive_blind program (primitive.Field field) = not (is_wire program field)
primitive_blind program (primitive.HasField field) = not (is_wire program field)
primitive_blind program (primitive.Step side by) = reads_none program side
primitive_blind program other = true

abbrev pub action_blind : Program → Action → Bool
action_blind program (action.Update side by) = reads_none program side
action_blind program other = true

abbrev mutual
  pub expr_blind : Program → Expr → Bool
  expr_blind program (form.Constant value) = true
  expr_blind program (form.Local number) = true
  expr_blind program (form.Global number) = true
  expr_blind program (form.Apply one operands) = primitive_blind program one && exprs_blind program operands
  expr_blind program (form.New number given) = givens_blind program given
  expr_blind program (form.And a b) = expr_blind program a && expr_blind program b
  expr_blind program (form.Or a b) = expr_blind program a && expr_blind program b
  expr_blind program (form.Choice test a b) = expr_blind program test && expr_blind program a && expr_blind program b
  expr_blind program (form.Call function operands) = exprs_blind program operands
  expr_blind program (form.Hook hook operands) = exprs_blind program operands
  expr_blind program (form.Write log row) = expr_blind program row

  pub exprs_blind : Program → Exprs → Bool
  exprs_blind program form.NoExpr = true
  exprs_blind program (form.AndExpr first others) = expr_blind program first && exprs_blind program others

  pub givens_blind : Program → Givens → Bool
  givens_blind program form.NoField = true
  givens_blind program (form.AndField number first others) = expr_blind program first && givens_blind program others
  givens_blind program (form.AndWire number «from» read others) = expr_blind program «from» && givens_blind program others

abbrev pub maybe_blind : Program → Option Expr → Bool
maybe_blind program None = true
maybe_blind program (Some one) = expr_blind program one

abbrev mutual
  pub stmt_blind : Program → Stmt → Bool
  stmt_blind program (form.Block stmts) = stmts_blind program stmts
  stmt_blind program (form.Do place one operands) = action_blind program one && exprs_blind program operands
  stmt_blind program (form.Move place to field «from» read) = expr_blind program to && expr_blind program «from»
  stmt_blind program (form.Evaluate place one) = expr_blind program one
  stmt_blind program (form.Perform place function operands) = exprs_blind program operands
  stmt_blind program (form.If place test a b) = expr_blind program test && stmt_blind program a && stmt_blind program b
  stmt_blind program (form.While place test body) = expr_blind program test && stmt_blind program body
  stmt_blind program (form.ForKeys place names over body) = expr_blind program over && stmt_blind program body
  stmt_blind program (form.ForIndexes place names over body) = expr_blind program over && stmt_blind program body
  stmt_blind program (form.Return place one) = maybe_blind program one
  stmt_blind program (form.Next place) = true
  stmt_blind program (form.Break place) = true

  pub stmts_blind : Program → Stmts → Bool
  stmts_blind program form.NoStmt = true
  stmts_blind program (form.AndStmt first others) = stmt_blind program first && stmts_blind program others

abbrev pub global_blind : Program → Global → Bool
global_blind program one = maybe_blind program one.initial && list_all (expr_blind program) one.added

abbrev pub hook_blind : Program → Hook → Bool
hook_blind program one = list_all (λ body. stmt_blind program body.body) one.bodies

abbrev pub handler_blind : Program → Handler → Bool
handler_blind program one = not (one.event.0 == packet_seen.0) && stmt_blind program one.body

abbrev pub is_blind : Program → Bool
is_blind program =
    list_all (global_blind program) program.globals &&
    list_all (λ one. stmt_blind program one.body) program.functions &&
    list_all (hook_blind program) program.hooks &&
    list_all (handler_blind program) program.handlers
