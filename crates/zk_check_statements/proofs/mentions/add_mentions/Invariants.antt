use Rattle.std.proofs.Common.{◌≡◌, ◌++◌, flat_map, take}
use Rattle.zk_scope.specs.Lent.{types_lent}
use Rattle.zk_typed.specs.Within.{mention}
use Rattle.zk_check_statements.specs.Turns.{names_lent}
use Rattle.zk_check_statements.proofs.mentions.add_mentions.Given as goal

abbrev pub invariant-loop-tree : goal.invariant-loop-tree
invariant-loop-tree l = names_lent l.names.items ≡ names_lent l.fn.names.items ++ flat_map mention (types_lent (take l.tree-index l.trees))
