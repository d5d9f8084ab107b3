use Rattle.std.proofs.Common.{take}
use Rattle.zk_scope.specs.FieldPlaces.{Hold}
use Rattle.zk_scope.specs.Lent.{stated_lent}
use Rattle.zk_scope.specs.Scripted.{scripts_in}
use Rattle.zk_scope.proofs.FieldPlaceLaws.{named_so_far, so_far}
use Rattle.zk_scope.proofs.fields.Fields.of.Given as goal

abbrev pub invariant-loop-place : goal.invariant-loop-place
invariant-loop-place l = Hold l.records.items (so_far (scripts_in l.names) (stated_lent (take l.place l.stated))) (named_so_far (scripts_in l.names) (stated_lent (take l.place l.stated)))
