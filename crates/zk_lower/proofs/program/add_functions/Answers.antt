use Rattle.std.proofs.Common.{rules, map, take}
use Rattle.zk_typed.specs.View.{function_of}
use Rattle.zk_lower.specs.Lowering.{function_ops, function_found}
use Rattle.zk_lower.specs.View as view
use Rattle.zk_lower.proofs.Growing.{grown_more, taken, found_one}
use Rattle.zk_lower.proofs.program.add_functions.Goals as goal

pub loop-function-preserved : goal.loop-function-preserved
loop-function-preserved c =
    grown_more function_ops function_found (map function_of (take c.loop-function.function-index c.args.functions.now)) _ (function_of c.function-item.result) c.args.ops.now c.loop-function.ops c.add_body.new.ops (map view.body_of c.loop-function.list.items) _ c.loop-function.invariant
    (taken function_of c.args.functions.now c.loop-function.function-index c.function-item.result c.loop-function-test.true (search rules))
    c.in_ok-code.ensures.ops
    (found_one view.body_of c.loop-function.list.items c.push.new.self.items _ _ c.in_ok-push.ensures.items (search rules))
