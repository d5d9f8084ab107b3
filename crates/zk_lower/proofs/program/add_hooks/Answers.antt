use Rattle.std.proofs.Common.{rules, map, take}
use Rattle.zk_typed.specs.View.{hook_of}
use Rattle.zk_lower.specs.Lowering.{hook_ops, hook_found}
use Rattle.zk_lower.specs.View as view
use Rattle.zk_lower.proofs.Growing.{grown_more, taken, found_one}
use Rattle.zk_lower.proofs.program.add_hooks.Goals as goal

pub loop-hook-preserved : goal.loop-hook-preserved
loop-hook-preserved c =
    grown_more hook_ops hook_found (map hook_of (take c.loop-hook.hook-index c.args.hooks.now)) _ (hook_of c.hook-item.result) c.args.ops.now c.loop-hook.ops c.add_bodies.new.ops (map (map view.body_of) c.loop-hook.list.items) _ c.loop-hook.invariant
    (taken hook_of c.args.hooks.now c.loop-hook.hook-index c.hook-item.result c.loop-hook-test.true (search rules))
    (search rules)
    (found_one (map view.body_of) c.loop-hook.list.items c.push.new.self.items _ _ c.in_ok-push.ensures.items (search rules))
