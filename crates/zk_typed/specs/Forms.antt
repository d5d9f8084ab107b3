-- The forms of typed programs (Zeek manual, Expressions and Statements), as trees over which the meaning recurses. The
-- Rust types of the same names say what each is; `View` takes those to these.
use Rattle.std.specs.Prelude.{ℕ, Option}
use Rattle.zk_base.specs.declared.numbers.HookNo.{HookNo}
use Rattle.zk_base.specs.declared.numbers.LogId.{LogId}
use Rattle.zk_base.specs.declared.numbers.RecordNo.{RecordNo}
use Rattle.zk_tree.specs.declared.place.Place.{Place}
use Rattle.zk_tree.specs.Value.{Value}
use Rattle.zk_typed.specs.declared.script.action.Action.{Action}
use Rattle.zk_typed.specs.declared.script.primitive.FieldNo.{FieldNo}
use Rattle.zk_typed.specs.declared.script.primitive.Primitive.{Primitive}
use Rattle.zk_typed.specs.declared.script.stmt.Names.{Names}

mutual
  pub data Expr : Type 0 where
    Constant : (value : Value) → Expr
    Local : (number : ℕ) → Expr
    Global : (number : ℕ) → Expr
    Apply : (primitive : Primitive) (operands : Exprs) → Expr
    New : (record_no : RecordNo) (given : Givens) → Expr
    And : (left : Expr) (right : Expr) → Expr
    Or : (left : Expr) (right : Expr) → Expr
    Choice : (test : Expr) (met : Expr) (otherwise : Expr) → Expr
    Call : (function : ℕ) (operands : Exprs) → Expr
    Hook : (hook : HookNo) (operands : Exprs) → Expr
    Write : (log : LogId) (row : Expr) → Expr

  -- expressions in order
  pub data Exprs : Type 0 where
    NoExpr : Exprs
    AndExpr : (first : Expr) (others : Exprs) → Exprs

  -- the fields that a constructor gives, in order: a field by a value, and a field marked `&wire` by the value of another
  pub data Givens : Type 0 where
    NoField : Givens
    AndField : (field : ℕ) (value : Expr) (others : Givens) → Givens
    AndWire : (field : ℕ) («from» : Expr) (read : FieldNo) (others : Givens) → Givens

mutual
  pub data Stmt : Type 0 where
    Block : (stmts : Stmts) → Stmt
    Do : (place : Place) (action : Action) (operands : Exprs) → Stmt
    Move : (place : Place) (to : Expr) (field : FieldNo) («from» : Expr) (read : FieldNo) → Stmt
    Evaluate : (place : Place) (value : Expr) → Stmt
    Perform : (place : Place) (function : ℕ) (operands : Exprs) → Stmt
    If : (place : Place) (test : Expr) (met : Stmt) (otherwise : Stmt) → Stmt
    While : (place : Place) (test : Expr) (body : Stmt) → Stmt
    ForKeys : (place : Place) (names : Names) (over : Expr) (body : Stmt) → Stmt
    ForIndexes : (place : Place) (names : Names) (over : Expr) (body : Stmt) → Stmt
    Return : (place : Place) (value : Option Expr) → Stmt
    Next : (place : Place) → Stmt
    Break : (place : Place) → Stmt

  -- statements in order
  pub data Stmts : Type 0 where
    NoStmt : Stmts
    AndStmt : (first : Stmt) (others : Stmts) → Stmts
