use Rattle.std.proofs.Common.{drop, flat_map}
use Rattle.zk_typed.specs.Declarations.{recursive_rules}
use Rattle.zk_typed.specs.Within.{mention}
use Rattle.zk_scope.specs.Lent.{home_of, types_lent}
use Rattle.zk_scope.specs.Scripted.{scripts_in}
use Rattle.zk_check_declarations.proofs.RuleLaws.{GoesOn}
use Rattle.zk_check_declarations.proofs.ground.Ground.all_mentions.Given as goal

abbrev pub invariant-loop-tree : goal.invariant-loop-tree
invariant-loop-tree l =
    GoesOn l.rules (recursive_rules (scripts_in l.self.names.now) (home_of l.home) l.whole (flat_map mention (types_lent (drop l.tree-index l.trees))))
    (recursive_rules (scripts_in l.self.names.now) (home_of l.home) l.whole (flat_map mention (types_lent l.trees)))
