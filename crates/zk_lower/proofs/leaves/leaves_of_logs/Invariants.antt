use Rattle.std.proofs.Common.{◌≡◌, map, take}
use Rattle.zk_typed.specs.View.{record_of}
use Rattle.zk_lower.specs.Leaves.{leaves_in, leaves_of}
use Rattle.zk_lower.proofs.leaves.leaves_of_logs.Given as goal

abbrev pub invariant-loop-log : goal.invariant-loop-log
invariant-loop-log l = map leaves_in l.all.items ≡ map (leaves_of (map record_of l.records)) (take l.log-index l.logs)
