use Rattle.std.proofs.Common.{rules}
use Rattle.std.proofs.lemmas.List.Sorted.{answers_always}
use Rattle.zk_machine.proofs.DefaultLemmas.{searched-found, searched-none}
use Rattle.zk_machine.proofs.table_defaults.place_of.Goals as goal

pub returns-clause-found : goal.returns-clause-found
returns-clause-found c =
    let facts = c.binary_search_by_key.ensures in
    let by_number = facts.position (λ one. one.object.0) (answers_always _ _ _ (λ f a r g called. search rules)) in
    rw c.ok.ensures.value (searched-found c.args.number c.args.all.now c.binary_search_by_key.result facts.bound by_number)

pub returns-clause-none : goal.returns-clause-none
returns-clause-none c =
    let facts = c.binary_search_by_key.ensures in
    let by_number = facts.position (λ one. one.object.0) (answers_always _ _ _ (λ f a r g called. search rules)) in
    rw c.ok.ensures.value (searched-none c.args.number c.args.all.now c.binary_search_by_key.result by_number)
