use Rattle.std.proofs.Common.{◌≡◌, ◌++◌, take}
use Rattle.zk_scope.specs.Calls.{calls_lent, stmts_calls}
use Rattle.zk_scope.specs.Lent.{home_of}
use Rattle.zk_scope.proofs.statement_calls.+stating.Given as goal

abbrev pub invariant-add_stmts_calls-loop-stmt : goal.invariant-add_stmts_calls-loop-stmt
invariant-add_stmts_calls-loop-stmt l = calls_lent l.found.items ≡ calls_lent l.fn.found.items ++ stmts_calls l.depth (home_of l.home) (take l.stmt-index l.stmts)
