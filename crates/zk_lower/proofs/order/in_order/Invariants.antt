use Rattle.std.proofs.Common.{◌≡◌, map, take}
use Rattle.zk_typed.specs.View.{hook_body_of}
use Rattle.zk_lower.proofs.order.in_order.Given as goal

abbrev pub invariant-loop-body : goal.invariant-loop-body
invariant-loop-body l = map (λ body. hook_body_of body.now) l.list.items ≡ map hook_body_of (take l.body-index l.bodies)
