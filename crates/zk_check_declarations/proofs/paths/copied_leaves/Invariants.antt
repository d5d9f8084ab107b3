use Rattle.std.proofs.Common.{◌≡◌, take}
use Rattle.zk_scope.specs.Leaves.{leaves_lent}
use Rattle.zk_check_declarations.proofs.paths.copied_leaves.Given as goal

abbrev pub invariant-loop-one : goal.invariant-loop-one
invariant-loop-one l = leaves_lent l.copies.items ≡ leaves_lent (take l.one-index l.ones)
