use Rattle.std.proofs.Common.{◌+◌, ◌*◌, take}
use Rattle.zk_typed.specs.Tells.{Tells}
use Rattle.zk_scope.specs.Keys.{keys_to}
use Rattle.zk_scope.specs.Lent.{home_of}
use Rattle.zk_scope.specs.Scripted.{scripts_in}
use Rattle.zk_scope.proofs.typing.+typing.Given as goal

abbrev pub decreases-type_to : goal.decreases-type_to
decreases-type_to l = 6 * l.depth

abbrev pub decreases-keys_to : goal.decreases-keys_to
decreases-keys_to l = 6 * l.depth + 1

abbrev pub decreases-formed : goal.decreases-formed
decreases-formed l = 6 * l.depth + 2

abbrev pub decreases-behind_names : goal.decreases-behind_names
decreases-behind_names l = 6 * l.depth + 3

abbrev pub decreases-placed_type : goal.decreases-placed_type
decreases-placed_type l = 6 * l.depth + 4

abbrev pub decreases-named_type : goal.decreases-named_type
decreases-named_type l = 6 * l.depth + 5

abbrev pub invariant-keys_to-loop-key : goal.invariant-keys_to-loop-key
invariant-keys_to-loop-key l = Tells (λ all. all) l.all (keys_to l.depth (scripts_in l.names) (home_of l.home) (take l.key-index l.keys))
