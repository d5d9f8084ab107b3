use Rattle.std.proofs.Common.{drop}
use Rattle.zk_scope.specs.Lent.{home_of, types_lent}
use Rattle.zk_scope.specs.Scripted.{scripts_in}
use Rattle.zk_check_declarations.specs.Nesting.{all_parts}
use Rattle.zk_check_declarations.proofs.RuleLaws.{GoesOn}
use Rattle.zk_check_declarations.proofs.ground.Ground.all_parts.Given as goal

abbrev pub invariant-loop-tree : goal.invariant-loop-tree
invariant-loop-tree l =
    GoesOn l.rules (all_parts (scripts_in l.self.names.now) (home_of l.home) (types_lent (drop l.tree-index l.trees))) (all_parts (scripts_in l.self.names.now) (home_of l.home) (types_lent l.trees))
