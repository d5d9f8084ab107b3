use Rattle.std.proofs.Common.{◌≡◌, length}
use Rattle.zk_scope.specs.Grouping.{AreFirsts}
use Rattle.zk_scope.specs.Lent.{declared_lent}
use Rattle.zk_scope.proofs.ways.all_firsts.Given as goal

abbrev pub invariant-loop-place : goal.invariant-loop-place
invariant-loop-place l = (length l.all.items ≡ l.place) × AreFirsts l.all.items (declared_lent l.table.names.items)
