use Rattle.std.proofs.Common.{◌≡◌, take}
use Rattle.zk_lower.proofs.types.logs_copy.Given as goal

abbrev pub invariant-loop-log : goal.invariant-loop-log
invariant-loop-log l = l.copy.items ≡ take l.log-index l.logs
