use Rattle.std.proofs.Common.{arith}
use Rattle.zk_check_operators.specs.Views.{wanted_in}
use Rattle.zk_check_expressions.specs.Envs.{env_of}
use Rattle.zk_check_expressions.proofs.FormLaws.{one_less, too_deep_is}
use Rattle.zk_check_expressions.proofs.expr.+expr_to.Goals as goal

pub returns-then-depth-eq0 : goal.returns-then-depth-eq0
returns-then-depth-eq0 t c = too_deep_is c.args.depth (env_of c.args.env.now) (wanted_in c.args.wanted) c.args.one.now c.too_deep.result (omega arith) (c.too_deep.ensures (wanted_in c.args.wanted))

pub returns : goal.returns
returns t c = rw (one_less c.args.depth (env_of c.args.env.now) (wanted_in c.args.wanted) c.args.one.now (omega arith)) c.form.ensures
