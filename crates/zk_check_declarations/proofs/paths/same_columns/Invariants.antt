use Rattle.std.proofs.Common.{◌≡◌, drop}
use Rattle.zk_typed.specs.Errors.{same_columns}
use Rattle.zk_scope.specs.Leaves.{leaves_lent}
use Rattle.zk_check_declarations.proofs.paths.same_columns.Given as goal

abbrev pub invariant-loop-one : goal.invariant-loop-one
invariant-loop-one l = same_columns (leaves_lent (drop l.one-index l.a)) (leaves_lent l.others) ≡ same_columns (leaves_lent l.a) (leaves_lent l.b)
