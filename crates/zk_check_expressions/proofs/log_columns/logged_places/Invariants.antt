use Rattle.std.proofs.Common.{◌≡◌, ◌++◌, drop}
use Rattle.zk_typed.specs.LogCalls.{places_of}
use Rattle.zk_scope.specs.Leaves.{leaves_lent}
use Rattle.zk_check_expressions.proofs.log_columns.logged_places.Given as goal

abbrev pub invariant-loop-leaf : goal.invariant-loop-leaf
invariant-loop-leaf l =
    l.places.items ++ places_of (λ leaf. leaf.log) l.place (leaves_lent (drop l.leaf-index l.leaves)) ≡ places_of (λ leaf. leaf.log) 0 (leaves_lent l.leaves)
