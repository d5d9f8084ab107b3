use Rattle.std.proofs.Common.{rules}
use Rattle.std.proofs.lemmas.List.Sorted.{answers_always}
use Rattle.zk_table.proofs.SearchLemmas.{searched-found, searched-none}
use Rattle.zk_table.proofs.entries.place_by_halves.Goals as goal

pub returns-clause-found : goal.returns-clause-found
returns-clause-found c =
    let facts = c.binary_search_by_key.ensures in
    let by_order = facts.position (λ slot. slot.order) (answers_always _ _ _ (λ f a r g called. search rules)) in
    rw c.ok.ensures.value (searched-found c.args.order c.args.slots.now c.binary_search_by_key.result facts.bound by_order)

pub returns-clause-none : goal.returns-clause-none
returns-clause-none c =
    let facts = c.binary_search_by_key.ensures in
    let by_order = facts.position (λ slot. slot.order) (answers_always _ _ _ (λ f a r g called. search rules)) in
    rw c.ok.ensures.value (searched-none c.args.order c.args.slots.now c.binary_search_by_key.result by_order)
