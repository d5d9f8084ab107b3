use Rattle.std.proofs.Common.{◌≡◌, take}
use Rattle.zk_typed.specs.Logs.{picked}
use Rattle.zk_scope.specs.Leaves.{leaves_lent}
use Rattle.zk_check_declarations.proofs.logging.picked.Given as goal

abbrev pub invariant-loop-place : goal.invariant-loop-place
invariant-loop-place l = leaves_lent l.made.items ≡ picked (leaves_lent l.leaves) (take l.place-index l.places)
