use Rattle.std.proofs.Common.{◌≡◌, ◌++◌, flat_map, take}
use Rattle.zk_scope.specs.Leading.{mention_places}
use Rattle.zk_scope.specs.Lent.{declared_lent, types_lent}
use Rattle.zk_scope.proofs.leading.add_mentions.Given as goal

abbrev pub invariant-loop-tree : goal.invariant-loop-tree
invariant-loop-tree l = l.places.items ≡ l.fn.places.items ++ flat_map (mention_places (declared_lent l.table.names.items) l.from_module) (types_lent (take l.tree-index l.trees))
