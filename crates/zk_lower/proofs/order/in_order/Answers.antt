use Rattle.std.proofs.Common.{rules, ◌≡◌, map, take, ap, ◌∙◌}
use Rattle.std.proofs.lemmas.List.{take_all}
use Rattle.std.proofs.lemmas.List.Sorted.{answers_always}
use Rattle.zk_typed.specs.Meaning.{in_order}
use Rattle.zk_typed.specs.View.{hook_body_of}
use Rattle.zk_lower.proofs.Priorities.{sorted_seen}
use Rattle.zk_lower.proofs.order.in_order.Goals as goal

pub returns : goal.returns
returns c =
    let whole : take c.loop-body.body-index c.args.bodies.now ≡ c.args.bodies.now = take_all c.loop-body.body-index c.args.bodies.now c.loop-body-test.false in
    sorted_seen (λ body. body.priority) (λ body. hook_body_of body.now) c.loop-body.list.items c.sort_by_key.new.self.items
    (c.in_ok-sort_by_key.ensures.sorted (λ body. record { 0 = body.now.priority }) (answers_always _ _ _ (λ f a r g h. search rules)))
    (c.in_ok-sort_by_key.ensures.stable (λ body. record { 0 = body.now.priority }) (answers_always _ _ _ (λ f a r g h. search rules))) ∙
    ap (in_order (λ body. body.priority)) (c.loop-body.invariant ∙ ap (map hook_body_of) whole)
