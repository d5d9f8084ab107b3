use Rattle.std.proofs.Common.{◌≡◌, take}
use Rattle.zk_check_expressions.specs.Envs.{locals_of}
use Rattle.zk_scope.specs.Lent.{home_of}
use Rattle.zk_scope.specs.Scripted.{scripts_in}
use Rattle.zk_typed.specs.Errors as spec
use Rattle.zk_check.proofs.judged.param_locals.Given as goal

abbrev pub invariant-loop-param : goal.invariant-loop-param
invariant-loop-param l = locals_of l.locals ≡ spec.param_locals (scripts_in l.names) (home_of l.home) (take l.param-index l.params)
