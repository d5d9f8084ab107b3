-- The fields that a constructor gives, as the Rust types hold them.
use Rattle.std.specs.Prelude.{List, [], ◌∷◌}
use Rattle.zk_typed.specs.declared.script.expr.Given.{Given, fold-Given}
use Rattle.zk_typed.specs.Forms.{Expr, Givens, NoField}
use Rattle.zk_typed.specs.View.{Prefixed, expr_step, given_step}

-- a field before others
abbrev pub given_of : Given → Prefixed
given_of = fold-Given Expr Prefixed expr_step given_step

abbrev pub all_given : List Given → Givens
all_given [] = NoField
all_given (first ∷ others) = given_of first (all_given others)
