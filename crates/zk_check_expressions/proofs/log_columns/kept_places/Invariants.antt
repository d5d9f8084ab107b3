use Rattle.std.proofs.Common.{◌≡◌, ◌++◌, drop}
use Rattle.std.specs.Option.{option_map}
use Rattle.zk_typed.specs.LogCalls.{keeps, logged, places_of}
use Rattle.zk_scope.specs.Leaves.{leaves_lent}
use Rattle.zk_check_expressions.specs.LogSettings.{texts_lent}
use Rattle.zk_check_expressions.proofs.log_columns.kept_places.Given as goal

abbrev pub invariant-loop-leaf : goal.invariant-loop-leaf
invariant-loop-leaf l =
    l.places.items ++ places_of (keeps (option_map (λ names. texts_lent names.now) l.included) (option_map (λ names. texts_lent names.now) l.excluded)) l.place (logged (leaves_lent (drop l.leaf-index l.leaves)))
    ≡ places_of (keeps (option_map (λ names. texts_lent names.now) l.included) (option_map (λ names. texts_lent names.now) l.excluded)) 0 (logged (leaves_lent l.leaves))
