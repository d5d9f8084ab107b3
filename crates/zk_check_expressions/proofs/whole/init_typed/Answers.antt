use Rattle.zk_check_operators.specs.Views.{wanted_in}
use Rattle.zk_typed.specs.Expressions as rules
use Rattle.zk_typed.specs.Within.{depth_max}
use Rattle.zk_check_expressions.specs.Envs.{env_of}
use Rattle.zk_check_expressions.proofs.FormLaws.{braces_told}
use Rattle.zk_check_expressions.proofs.whole.init_typed.Goals as goal

pub returns-in-Value : goal.returns-in-Value
unfolding depth_max
returns-in-Value c = rw c.in-Value.is c.expr_typed.ensures

pub returns-in-Braces : goal.returns-in-Braces
unfolding depth_max
returns-in-Braces c =
    rw c.in-Braces.is
    (braces_told (rules.expr_typed (env_of c.args.env.now)) (env_of c.args.env.now) (wanted_in c.args.wanted) c.in-Braces.place c.in-Braces.values c.as_slice.result.now c.at.result c.braces_typed.result
    c.at.ensures c.as_slice.ensures c.braces_typed.ensures)
