use Rattle.std.proofs.Common.{◌≡◌, ◌++◌, map, take}
use Rattle.zk_typed.specs.Resolving.{written_field}
use Rattle.zk_scope.specs.Fields.{fields_lent}
use Rattle.zk_scope.specs.Lent.{home_of}
use Rattle.zk_scope.specs.Scripted.{scripts_in}
use Rattle.zk_scope.proofs.fielding.add_written.Given as goal

abbrev pub invariant-loop-field : goal.invariant-loop-field
invariant-loop-field l = fields_lent l.all.items ≡ fields_lent l.fn.all.items ++ map (written_field (scripts_in l.names) (home_of l.home)) (take l.field-index l.fields)
