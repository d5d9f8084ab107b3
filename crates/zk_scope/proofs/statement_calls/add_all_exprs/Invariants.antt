use Rattle.std.proofs.Common.{◌≡◌, ◌++◌, take}
use Rattle.zk_scope.specs.Calls.{calls_lent, all_exprs_calls}
use Rattle.zk_scope.specs.Lent.{home_of}
use Rattle.zk_scope.proofs.statement_calls.add_all_exprs.Given as goal

abbrev pub invariant-loop-one : goal.invariant-loop-one
invariant-loop-one l = calls_lent l.found.items ≡ calls_lent l.fn.found.items ++ all_exprs_calls (home_of l.home) (take l.one-index l.ones)
