use Rattle.std.proofs.Common.{◌≡◌, ◌++◌, flat_map, take}
use Rattle.zk_typed.specs.Within.{stmt_locals}
use Rattle.zk_scope.specs.Lent.{types_lent}
use Rattle.zk_scope.proofs.types.+locals.Given as goal

abbrev pub invariant-stmts_locals-loop-stmt : goal.invariant-stmts_locals-loop-stmt
invariant-stmts_locals-loop-stmt l = types_lent l.types.items ≡ types_lent l.fn.types.items ++ flat_map stmt_locals (take l.stmt-index l.stmts)
