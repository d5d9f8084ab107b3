use Rattle.std.proofs.Common.{◌≡◌, ◌++◌, take}
use Rattle.zk_scope.specs.Fields.{fields_lent, known_lent}
use Rattle.zk_scope.proofs.predefined.add_known.Given as goal

abbrev pub invariant-loop-field : goal.invariant-loop-field
invariant-loop-field l = fields_lent l.all.items ≡ fields_lent l.fn.all.items ++ known_lent (take l.field-index l.fields)
