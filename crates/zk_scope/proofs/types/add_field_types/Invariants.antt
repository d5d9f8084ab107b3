use Rattle.std.proofs.Common.{◌≡◌, ◌++◌, take}
use Rattle.zk_typed.specs.Names.{field_types}
use Rattle.zk_scope.specs.Lent.{types_lent}
use Rattle.zk_scope.proofs.types.add_field_types.Given as goal

abbrev pub invariant-loop-field : goal.invariant-loop-field
invariant-loop-field l = types_lent l.types.items ≡ types_lent l.fn.types.items ++ field_types (take l.field-index l.fields)
