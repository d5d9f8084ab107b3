use Rattle.std.proofs.Common.{◌≡◌, length}
use Rattle.zk_scope.specs.FieldPlaces.{AreOwn}
use Rattle.zk_scope.specs.Scripted.{scripts_in}
use Rattle.zk_scope.proofs.fields.own_before.Given as goal

abbrev pub invariant-loop-number : goal.invariant-loop-number
invariant-loop-number l = (length l.all.items ≡ l.number) × AreOwn l.all.items (scripts_in l.names)
