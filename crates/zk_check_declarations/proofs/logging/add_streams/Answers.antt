use Rattle.std.proofs.Common.{flat_map}
use Rattle.zk_typed.specs.Errors.{log_call}
use Rattle.zk_scope.specs.Calls.{call_of}
use Rattle.zk_check_declarations.specs.Sources.{scripts_from}
use Rattle.zk_check_declarations.specs.Uses.{created_by, streams_lent}
use Rattle.zk_check_declarations.proofs.ListLaws.{mapped_turn}
use Rattle.zk_check_declarations.proofs.logging.add_streams.Goals as goal

pub loop-call-preserved : goal.loop-call-preserved
loop-call-preserved c =
    mapped_turn (λ call. flat_map created_by (log_call (scripts_from c.args.source.now) call)) call_of
    (streams_lent c.args.all.now.items) (streams_lent c.loop-call.all.items) (streams_lent c.add_stream.new.all.items)
    c.deref-call-items.result.now c.loop-call.call-index c.call-item.result c.loop-call-test.true c.call-item.is c.loop-call.invariant c.in_ok-add_stream.ensures
