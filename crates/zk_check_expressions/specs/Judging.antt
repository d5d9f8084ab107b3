-- What a function value that checks the parts of an expression is to do.
use Rattle.std.specs.Prelude.{ℕ, Result}
use Rattle.std.specs.Borrow.{Bor}
use Rattle.std.specs.declared.alloc.Global.{Global}
use Rattle.zk_tree.specs.declared.expr.Expr.{Expr}
use Rattle.zk_check_operators.specs.declared.operands.Typed.{Typed as RustTyped}
use Rattle.zk_check_operators.specs.declared.operands.Wanted.{Wanted as RustWanted}
use Rattle.zk_check_operators.specs.Views.{typed_of, wanted_in}
use Rattle.zk_typed.specs.declared.refusal.Refusal.{Refusal}
use Rattle.zk_typed.specs.Expressions.{expr_to}
use Rattle.zk_typed.specs.Tells.{Tells}
use Rattle.zk_check_expressions.specs.declared.env.Env.{Env}
use Rattle.zk_check_expressions.specs.Envs.{env_of}

-- it checks expressions as deep as this
pub record Judges (depth : ℕ) (pre : Global → Bor Env → ℕ → RustWanted → Bor Expr → Type 0)
    (post : Global → Bor Env → ℕ → RustWanted → Bor Expr → Result RustTyped Refusal → Type 0) : Type 0 where
  pub callable : (alloc : Global) (env : Bor Env) (wanted : RustWanted) (one : Bor Expr) → pre alloc env depth wanted one
  pub gives : (alloc : Global) (env : Bor Env) (wanted : RustWanted) (one : Bor Expr) (result : Result RustTyped Refusal) →
      post alloc env depth wanted one result → Tells typed_of result (expr_to depth (env_of env.now) (wanted_in wanted) one.now)
