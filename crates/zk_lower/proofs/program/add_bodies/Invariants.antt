use Rattle.std.proofs.Common.{map, take}
use Rattle.zk_typed.specs.View.{hook_body_of}
use Rattle.zk_lower.specs.Lowering.{hook_body_ops, hook_body_found}
use Rattle.zk_lower.specs.View as view
use Rattle.zk_lower.proofs.Growing.{Grown}
use Rattle.zk_lower.proofs.program.add_bodies.Given as goal

abbrev pub invariant-loop-body : goal.invariant-loop-body
invariant-loop-body l = Grown hook_body_ops hook_body_found (map (λ body. hook_body_of body.now) (take l.body-index l.bodies)) l.initial.ops l.ops (map view.body_of l.list.items)
