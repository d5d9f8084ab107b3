use Rattle.std.proofs.Common.{◌≡◌, length}
use Rattle.zk_scope.specs.Ends.{AreNexts}
use Rattle.zk_scope.specs.Scripted.{scripts_in}
use Rattle.zk_scope.proofs.ends.all_nexts.Given as goal

abbrev pub invariant-loop-place : goal.invariant-loop-place
invariant-loop-place l = (length l.nexts.items ≡ l.place) × AreNexts l.nexts.items (scripts_in l.names)
