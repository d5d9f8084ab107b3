use Rattle.std.proofs.Common.{◌≡◌, ◌++◌, flat_map, take}
use Rattle.zk_typed.specs.Errors.{log_call}
use Rattle.zk_scope.specs.Calls.{calls_lent}
use Rattle.zk_check_declarations.specs.Sources.{scripts_from}
use Rattle.zk_check_declarations.specs.Uses.{created_by, streams_lent}
use Rattle.zk_check_declarations.proofs.logging.add_streams.Given as goal

abbrev pub invariant-loop-call : goal.invariant-loop-call
invariant-loop-call l = streams_lent l.all.items ≡ streams_lent l.fn.all.items ++ flat_map (λ call. flat_map created_by (log_call (scripts_from l.source) call)) (calls_lent (take l.call-index l.call-items))
