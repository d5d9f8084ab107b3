use Rattle.std.proofs.Common.{◌≡◌, flat_map, take}
use Rattle.zk_scope.specs.Lent.{declared_lent}
use Rattle.zk_scope.specs.Scripted.{scripts_in}
use Rattle.zk_check_declarations.specs.Logging.{logs_by}
use Rattle.zk_check.proofs.logs.all_logs.Given as goal

abbrev pub invariant-loop-one : goal.invariant-loop-one
invariant-loop-one l = l.all.items ≡ flat_map (logs_by (scripts_in l.scripts.names)) (declared_lent (take l.one-index l.one-items))
