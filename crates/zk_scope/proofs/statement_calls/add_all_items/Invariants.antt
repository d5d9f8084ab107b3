use Rattle.std.proofs.Common.{◌≡◌, ◌++◌, take}
use Rattle.zk_scope.specs.Calls.{calls_lent, all_items_calls}
use Rattle.zk_scope.specs.Lent.{home_of}
use Rattle.zk_scope.proofs.statement_calls.add_all_items.Given as goal

abbrev pub invariant-loop-item : goal.invariant-loop-item
invariant-loop-item l = calls_lent l.found.items ≡ calls_lent l.fn.found.items ++ all_items_calls (home_of l.home) (take l.item-index l.items)
