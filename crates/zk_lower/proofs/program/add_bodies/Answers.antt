use Rattle.std.proofs.Common.{rules, map, take}
use denote.Ref.{Bor}
use Rattle.zk_typed.specs.declared.script.program.HookBody.{HookBody as RustHookBody}
use Rattle.zk_typed.specs.Program.{HookBody}
use Rattle.zk_typed.specs.View.{hook_body_of}
use Rattle.zk_lower.specs.Lowering.{hook_body_ops, hook_body_found}
use Rattle.zk_lower.specs.View as view
use Rattle.zk_lower.proofs.Growing.{grown_more, taken, found_one}
use Rattle.zk_lower.proofs.program.add_bodies.Goals as goal

pub loop-body-preserved : goal.loop-body-preserved
loop-body-preserved c =
    let seen : Bor RustHookBody → HookBody = λ body. hook_body_of body.now in
    grown_more hook_body_ops hook_body_found (map seen (take c.loop-body.body-index c.args.bodies.now)) _ (seen c.body-item.result) c.args.ops.now c.loop-body.ops c.add_body.new.ops (map view.body_of c.loop-body.list.items) _ c.loop-body.invariant
    (taken seen c.args.bodies.now c.loop-body.body-index c.body-item.result c.loop-body-test.true (search rules))
    (search rules)
    (found_one view.body_of c.loop-body.list.items c.push.new.self.items _ _ c.in_ok-push.ensures.items (search rules))
