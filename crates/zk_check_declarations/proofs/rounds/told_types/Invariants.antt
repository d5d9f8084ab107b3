use Rattle.zk_scope.specs.Scripted.{scripts_in}
use Rattle.zk_check_declarations.specs.Rounds.{IsAfter}
use Rattle.zk_check_declarations.proofs.rounds.told_types.Given as goal

abbrev pub invariant-loop-at : goal.invariant-loop-at
invariant-loop-at l = IsAfter (scripts_in l.scripts.names) l.at l.types.items
