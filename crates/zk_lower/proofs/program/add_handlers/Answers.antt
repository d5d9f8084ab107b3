use Rattle.std.proofs.Common.{rules, map, take}
use Rattle.zk_typed.specs.View.{handler_of}
use Rattle.zk_lower.specs.Lowering.{handler_ops, handler_found}
use Rattle.zk_lower.specs.View as view
use Rattle.zk_lower.proofs.Growing.{grown_more, taken, found_one}
use Rattle.zk_lower.proofs.program.add_handlers.Goals as goal

pub loop-handler-preserved : goal.loop-handler-preserved
loop-handler-preserved c =
    grown_more handler_ops handler_found (map handler_of (take c.loop-handler.handler-index c.args.handlers.now)) _ (handler_of c.handler-item.result) c.args.ops.now c.loop-handler.ops c.add_body.new.ops (map view.handler_of c.loop-handler.list.items) _ c.loop-handler.invariant
    (taken handler_of c.args.handlers.now c.loop-handler.handler-index c.handler-item.result c.loop-handler-test.true (search rules))
    c.in_ok-body.ensures.ops
    (found_one view.handler_of c.loop-handler.list.items c.push.new.self.items _ _ c.in_ok-push.ensures.items (search rules))
