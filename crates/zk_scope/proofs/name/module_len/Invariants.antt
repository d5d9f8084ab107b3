use Rattle.zk_scope.proofs.NameLaws.{IsRead}
use Rattle.zk_scope.proofs.name.module_len.Given as goal

abbrev pub invariant-loop-at : goal.invariant-loop-at
invariant-loop-at l = IsRead l.name l.at
