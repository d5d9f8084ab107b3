use Rattle.std.proofs.Common.{◌≡◌, ◌++◌, take}
use Rattle.zk_typed.specs.Names.{param_types}
use Rattle.zk_scope.specs.Lent.{types_lent}
use Rattle.zk_scope.proofs.types.add_param_types.Given as goal

abbrev pub invariant-loop-param : goal.invariant-loop-param
invariant-loop-param l = types_lent l.types.items ≡ types_lent l.fn.types.items ++ param_types (take l.param-index l.params)
