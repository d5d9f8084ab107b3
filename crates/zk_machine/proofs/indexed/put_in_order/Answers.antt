use Rattle.std.proofs.Common.{rules}
use Rattle.std.proofs.lemmas.List.Sorted.{answers_always}
use Rattle.zk_machine.specs.Handling.{numbered_of}
use Rattle.zk_lower.proofs.Priorities.{sorted_seen}
use Rattle.zk_machine.proofs.indexed.put_in_order.Goals as goal

pub returns : goal.returns
returns c =
    sorted_seen (λ one. one.1.priority) numbered_of c.args.list.now.items c.sort_by_key.new.self.items
    (c.in_ok-sort_by_key.ensures.sorted (λ one. record { 0 = one.handler.priority }) (answers_always _ _ _ (λ f a r g h. search rules)))
    (c.in_ok-sort_by_key.ensures.stable (λ one. record { 0 = one.handler.priority }) (answers_always _ _ _ (λ f a r g h. search rules)))
