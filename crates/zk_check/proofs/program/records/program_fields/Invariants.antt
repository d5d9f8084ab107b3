use Rattle.std.proofs.Common.{◌≡◌, map, take}
use Rattle.zk_scope.specs.Fields.{fields_lent}
use Rattle.zk_typed.specs.Programs as spec
use Rattle.zk_typed.specs.Resolving.{Scripts}
use Rattle.zk_typed.specs.View as view
use Rattle.zk_check.proofs.program.records.program_fields.Given as goal

abbrev pub invariant-loop-field : goal.invariant-loop-field
invariant-loop-field l = (scripts : Scripts) → map view.field_of l.all.items ≡ map (spec.field_of scripts) (fields_lent (take l.field-index l.fields))
