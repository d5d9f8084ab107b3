-- Each form spares a set of no globals.
use Rattle.std.proofs.Common.{List, [], ◌∷◌, Some, None}
use Rattle.std.specs.List.{AllByRecursion}
use Rattle.zk_typed.specs.declared.script.action.Action.{Action}
use Rattle.zk_typed.specs.declared.script.action.Action.TheVariants as action
use Rattle.zk_typed.specs.declared.script.action.Left.{Left}
use Rattle.zk_typed.specs.declared.script.action.Left.TheVariants as left
use Rattle.zk_typed.specs.declared.script.primitive.Primitive.{Primitive}
use Rattle.zk_typed.specs.declared.script.primitive.Primitive.TheVariants as primitive
use Rattle.zk_typed.specs.Forms as form
use Rattle.zk_typed.specs.Forms.{Expr, Exprs, Givens, Stmt, Stmts}
use Rattle.zk_typed.specs.Program.{Program, Function, Hook, HookBody, Handler}
use Rattle.zk_agenda.specs.Sparing.{Numbers, SparesSide, SparesPrimitive, SparesAction, SparesExpr, SpareExprs, SpareGivens, SparesStmt, SpareStmts, Spares}

-- no global
abbrev pub Nothing : Numbers
Nothing number = ⊥

side-spares : (one : Left) → SparesSide Nothing one
side-spares (left.Global number) = λ never. never
side-spares (left.Local number) = tt
side-spares (left.Field field) = tt
side-spares left.Element = tt
side-spares left.Item = tt

primitive-spares : (one : Primitive) → SparesPrimitive Nothing one
primitive-spares (primitive.Step side by) = side-spares side
primitive-spares one = tt

action-spares : (one : Action) → SparesAction Nothing one
action-spares (action.Assign side) = side-spares side
action-spares (action.Update side by) = side-spares side
action-spares one = tt

mutual
  pub expr-spares : (one : Expr) → SparesExpr Nothing one
  expr-spares (form.Constant one) = tt
  expr-spares (form.Local number) = tt
  expr-spares (form.Global number) = tt
  expr-spares (form.Apply primitive operands) = (primitive-spares primitive, exprs-spare operands)
  expr-spares (form.New number given) = givens-spare given
  expr-spares (form.And a b) = (expr-spares a, expr-spares b)
  expr-spares (form.Or a b) = (expr-spares a, expr-spares b)
  expr-spares (form.Choice test met otherwise) = (expr-spares test, expr-spares met, expr-spares otherwise)
  expr-spares (form.Call function operands) = exprs-spare operands
  expr-spares (form.Hook hook operands) = exprs-spare operands
  expr-spares (form.Write log row) = expr-spares row

  exprs-spare : (list : Exprs) → SpareExprs Nothing list
  exprs-spare form.NoExpr = tt
  exprs-spare (form.AndExpr first others) = (expr-spares first, exprs-spare others)

  givens-spare : (list : Givens) → SpareGivens Nothing list
  givens-spare form.NoField = tt
  givens-spare (form.AndField number one others) = (expr-spares one, givens-spare others)
  givens-spare (form.AndWire number «from» read others) = (expr-spares «from», givens-spare others)

mutual
  pub stmt-spares : (one : Stmt) → SparesStmt Nothing one
  stmt-spares (form.Block stmts) = stmts-spare stmts
  stmt-spares (form.Do place action operands) = (action-spares action, exprs-spare operands)
  stmt-spares (form.Move place to number «from» read) = (expr-spares to, expr-spares «from»)
  stmt-spares (form.Evaluate place one) = expr-spares one
  stmt-spares (form.Perform place function operands) = exprs-spare operands
  stmt-spares (form.If place test met otherwise) = (expr-spares test, stmt-spares met, stmt-spares otherwise)
  stmt-spares (form.While place test body) = (expr-spares test, stmt-spares body)
  stmt-spares (form.ForKeys place names over body) = (expr-spares over, stmt-spares body)
  stmt-spares (form.ForIndexes place names over body) = (expr-spares over, stmt-spares body)
  stmt-spares (form.Return place None) = tt
  stmt-spares (form.Return place (Some one)) = expr-spares one
  stmt-spares (form.Next place) = tt
  stmt-spares (form.Break place) = tt

  stmts-spare : (list : Stmts) → SpareStmts Nothing list
  stmts-spare form.NoStmt = tt
  stmts-spare (form.AndStmt first others) = (stmt-spares first, stmts-spare others)

each : {A : Type 0} (P : A → Type 0) → ((one : A) → P one) → (ones : List A) → AllByRecursion P ones
each P h [] = tt
each P h (one ∷ ones) = (h one, each P h ones)

pub program-spares : (program : Program) → Spares Nothing program
program-spares program = record {
  functions = each (λ (one : Function). SparesStmt Nothing one.body) (λ one. stmt-spares one.body) program.functions;
  hooks = each (λ (hook : Hook). AllByRecursion (λ (one : HookBody). SparesStmt Nothing one.body) hook.bodies) (λ hook. each (λ (one : HookBody). SparesStmt Nothing one.body) (λ one. stmt-spares one.body) hook.bodies) program.hooks;
  handlers = each (λ (one : Handler). SparesStmt Nothing one.body) (λ one. stmt-spares one.body) program.handlers;
}
