-- The nodes in an expression whose nesting counts.
use Rattle.std.specs.Prelude.{ℕ, List, Result}
use Rattle.std.specs.declared.alloc.Global.{Global}
use Rattle.zk_tree.specs.declared.expr.Expr.{Expr}
use Rattle.zk_tree.specs.declared.token.Token.{Token}
use Rattle.zk_tree.specs.Rules.{Nest, AnExpr, ACond, AUnary}
use denote.Ref.{MutBor}
use Rattle.zk_parse_core.specs.declared.fault.FormFault.{FormFault}
use Rattle.zk_parse_core.specs.Reading.{Gives, within}
use Rattle.zk_parse_expressions.specs.declared.expr.Counted.{Counted}
use Rattle.zk_parse_expressions.specs.declared.expr.Counted.TheVariants as counted

abbrev pub nest_of : Counted → Nest Expr
nest_of counted.Expr = AnExpr
nest_of counted.Cond = ACond
nest_of counted.Unary = AUnary

-- a function value reads the nodes in an expression that are nested at most so deep
pub record Nests (depth : ℕ) (pre : Global → MutBor (List Token) → ℕ → Counted → Type 0)
    (post : Global → MutBor (List Token) → ℕ → Counted → Result Expr FormFault → MutBor (List Token) → Type 0) : Type 0 where
  pub callable : (alloc : Global) (old : MutBor (List Token)) (what : Counted) → pre alloc old depth what
  pub gives : (alloc : Global) (old new : MutBor (List Token)) (what : Counted) (result : Result Expr FormFault) → post alloc old depth what result new
      → Gives (within depth Expr (nest_of what) old.now) result new.now
