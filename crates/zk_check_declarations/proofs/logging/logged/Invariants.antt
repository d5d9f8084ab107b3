use Rattle.std.proofs.Common.{◌≡◌, take}
use Rattle.zk_typed.specs.LogCalls.{logged}
use Rattle.zk_scope.specs.Leaves.{leaves_lent}
use Rattle.zk_check_declarations.proofs.logging.logged.Given as goal

abbrev pub invariant-loop-leaf : goal.invariant-loop-leaf
invariant-loop-leaf l = leaves_lent l.made.items ≡ logged (leaves_lent (take l.leaf-index l.leaves))
