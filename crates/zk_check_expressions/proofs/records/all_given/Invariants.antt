use Rattle.std.proofs.Common.{◌≡◌, drop, map}
use Rattle.zk_scope.specs.Fields.{fields_lent}
use Rattle.zk_typed.specs.Making as making
use Rattle.zk_check_expressions.specs.Records.{given_of}
use Rattle.zk_check_expressions.proofs.records.all_given.Given as goal

abbrev pub invariant-loop-at : goal.invariant-loop-at
invariant-loop-at l =
    making.all_given l.at (fields_lent (drop l.at l.fields)) (map given_of l.given) ≡ making.all_given 0 (fields_lent l.fields) (map given_of l.given)
