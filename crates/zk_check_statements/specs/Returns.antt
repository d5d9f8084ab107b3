-- `return` where a result is declared, and where none is.
use Rattle.std.specs.Prelude.{Option, Some, None, Ok}
use Rattle.zk_tree.specs.declared.expr.Expr.{Expr}
use Rattle.zk_tree.specs.declared.place.Place.{Place}
use Rattle.zk_typed.specs.declared.rule.Rule.TheVariants as rule
use Rattle.zk_typed.specs.Checked.{Checked, broken, broken_anyway, ◌>>=◌}
use Rattle.zk_typed.specs.Forms as form
use Rattle.zk_typed.specs.Typing.{Check, Wanted, Nothing}

abbrev pub given_back : Check → Place → Wanted → Option Expr → Checked form.Stmt
given_back check place wanted (Some one) = check wanted one >>= (λ given. Ok (form.Return place (Some given.expr)))
given_back check place wanted None = broken rule.Return place

abbrev pub nothing_back : Check → Place → Option Expr → Checked form.Stmt
nothing_back check place (Some one) = broken_anyway (check Nothing one) rule.Return place
nothing_back check place None = Ok (form.Return place None)
