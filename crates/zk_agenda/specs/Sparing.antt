-- Bodies that spare globals: no statement of theirs gives these another value.
use Rattle.std.specs.Prelude.{◌≡◌, ℕ, true, Some, None, is_some, slice_get}
use Rattle.std.specs.List.{AllByRecursion}
use Rattle.zk_typed.specs.declared.script.action.Action.{Action}
use Rattle.zk_typed.specs.declared.script.action.Action.TheVariants as action
use Rattle.zk_typed.specs.declared.script.action.Left.{Left}
use Rattle.zk_typed.specs.declared.script.action.Left.TheVariants as left
use Rattle.zk_typed.specs.declared.script.primitive.Primitive.{Primitive}
use Rattle.zk_typed.specs.declared.script.primitive.Primitive.TheVariants as primitive
use Rattle.zk_typed.specs.Forms as form
use Rattle.zk_typed.specs.Forms.{Expr, Exprs, Givens, Stmt, Stmts}
use Rattle.zk_typed.specs.Program.{Program, Global}

-- numbers of globals
abbrev pub Numbers : Type 1
Numbers = ℕ → Type 0

-- a left side is none of these
abbrev pub SparesSide : Numbers → Left → Type 0
SparesSide spared (left.Global number) = spared number → ⊥
SparesSide spared other = Unit {0}

abbrev pub SparesPrimitive : Numbers → Primitive → Type 0
SparesPrimitive spared (primitive.Step side by) = SparesSide spared side
SparesPrimitive spared other = Unit {0}

abbrev pub SparesAction : Numbers → Action → Type 0
SparesAction spared (action.Assign side) = SparesSide spared side
SparesAction spared (action.Update side by) = SparesSide spared side
SparesAction spared other = Unit {0}

abbrev mutual
  pub SparesExpr : Numbers → Expr → Type 0
  SparesExpr spared (form.Constant one) = Unit {0}
  SparesExpr spared (form.Local number) = Unit {0}
  SparesExpr spared (form.Global number) = Unit {0}
  SparesExpr spared (form.Apply primitive operands) = SparesPrimitive spared primitive × SpareExprs spared operands
  SparesExpr spared (form.New number given) = SpareGivens spared given
  SparesExpr spared (form.And a b) = SparesExpr spared a × SparesExpr spared b
  SparesExpr spared (form.Or a b) = SparesExpr spared a × SparesExpr spared b
  SparesExpr spared (form.Choice test met otherwise) = SparesExpr spared test × SparesExpr spared met × SparesExpr spared otherwise
  SparesExpr spared (form.Call function operands) = SpareExprs spared operands
  SparesExpr spared (form.Hook hook operands) = SpareExprs spared operands
  SparesExpr spared (form.Write log row) = SparesExpr spared row

  pub SpareExprs : Numbers → Exprs → Type 0
  SpareExprs spared form.NoExpr = Unit {0}
  SpareExprs spared (form.AndExpr first others) = SparesExpr spared first × SpareExprs spared others

  pub SpareGivens : Numbers → Givens → Type 0
  SpareGivens spared form.NoField = Unit {0}
  SpareGivens spared (form.AndField number one others) = SparesExpr spared one × SpareGivens spared others
  SpareGivens spared (form.AndWire number «from» read others) = SparesExpr spared «from» × SpareGivens spared others

abbrev mutual
  pub SparesStmt : Numbers → Stmt → Type 0
  SparesStmt spared (form.Block stmts) = SpareStmts spared stmts
  SparesStmt spared (form.Do place action operands) = SparesAction spared action × SpareExprs spared operands
  SparesStmt spared (form.Move place to number «from» read) = SparesExpr spared to × SparesExpr spared «from»
  SparesStmt spared (form.Evaluate place one) = SparesExpr spared one
  SparesStmt spared (form.Perform place function operands) = SpareExprs spared operands
  SparesStmt spared (form.If place test met otherwise) = SparesExpr spared test × SparesStmt spared met × SparesStmt spared otherwise
  SparesStmt spared (form.While place test body) = SparesExpr spared test × SparesStmt spared body
  SparesStmt spared (form.ForKeys place names over body) = SparesExpr spared over × SparesStmt spared body
  SparesStmt spared (form.ForIndexes place names over body) = SparesExpr spared over × SparesStmt spared body
  SparesStmt spared (form.Return place None) = Unit {0}
  SparesStmt spared (form.Return place (Some one)) = SparesExpr spared one
  SparesStmt spared (form.Next place) = Unit {0}
  SparesStmt spared (form.Break place) = Unit {0}

  pub SpareStmts : Numbers → Stmts → Type 0
  SpareStmts spared form.NoStmt = Unit {0}
  SpareStmts spared (form.AndStmt first others) = SparesStmt spared first × SpareStmts spared others

-- no body of a program gives one of these globals another value
pub record Spares (spared : Numbers) (program : Program) : Type 0 where
  pub functions : AllByRecursion (λ one. SparesStmt spared one.body) program.functions
  pub hooks : AllByRecursion (λ hook. AllByRecursion (λ one. SparesStmt spared one.body) hook.bodies) program.hooks
  pub handlers : AllByRecursion (λ one. SparesStmt spared one.body) program.handlers

-- the globals whose entries expire
abbrev pub Expires : Program → Numbers
Expires program number = (one : Global) × (slice_get program.globals number ≡ Some one) × (is_some one.expiry ≡ true)
