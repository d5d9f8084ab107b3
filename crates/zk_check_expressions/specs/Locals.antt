-- The names of parameters and locals.
use Rattle.std.specs.Prelude.{List, ℕ, map}
use Rattle.zk_check_expressions.specs.declared.env.LocalName.{LocalName as LentLocal}

abbrev pub named : List LentLocal → List (List ℕ)
named locals = map (λ one. one.name.now) locals
