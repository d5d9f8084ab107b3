use Rattle.std.proofs.Common.{◌≡◌, ◌++◌, flat_map, take}
use Rattle.zk_scope.specs.Calls.{calls_lent}
use Rattle.zk_scope.specs.Scripted.{scripts_in}
use Rattle.zk_scope.specs.Streams.{call_created, created_lent}
use Rattle.zk_scope.proofs.created.add_all_created.Given as goal

abbrev pub invariant-loop-call : goal.invariant-loop-call
invariant-loop-call l =
    created_lent l.all.items ≡ created_lent l.fn.all.items ++ flat_map (call_created (scripts_in l.names)) (calls_lent (take l.call-index l.calls))
