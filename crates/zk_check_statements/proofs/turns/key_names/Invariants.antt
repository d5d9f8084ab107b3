use Rattle.std.proofs.Common.{◌≡◌, take}
use Rattle.zk_check_statements.specs.Turns.{names_lent}
use Rattle.zk_check_statements.proofs.turns.key_names.Given as goal

abbrev pub invariant-loop-name : goal.invariant-loop-name
invariant-loop-name l = names_lent l.all.items ≡ take l.name-index l.name-items
