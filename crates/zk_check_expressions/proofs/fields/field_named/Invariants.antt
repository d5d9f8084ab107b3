use Rattle.std.proofs.Common.{◌≡◌, drop}
use Rattle.zk_scope.specs.Fields.{fields_lent}
use Rattle.zk_typed.specs.Making as making
use Rattle.zk_check_expressions.proofs.fields.field_named.Given as goal

abbrev pub invariant-loop-number : goal.invariant-loop-number
invariant-loop-number l = making.field_named l.name l.number (fields_lent (drop l.number l.fields)) ≡ making.field_named l.name 0 (fields_lent l.fields)
