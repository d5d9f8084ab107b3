use Rattle.std.proofs.Common.{◌≡◌, length}
use Rattle.zk_scope.specs.Lent.{declared_lent}
use Rattle.zk_scope.proofs.CircleLaws.{AreSeen}
use Rattle.zk_scope.proofs.circles.all_circles.Given as goal

abbrev pub invariant-loop-place : goal.invariant-loop-place
invariant-loop-place l = (length l.all.items ≡ l.place) × AreSeen l.all.items (declared_lent l.table.names.items)
