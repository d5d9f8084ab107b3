use Rattle.std.proofs.Common.{rules}
use Rattle.std.proofs.lemmas.List.Sorted.{answers_always}
use Rattle.zk_machine.proofs.OwnerLemmas.{searched-owner}
use Rattle.zk_machine.proofs.globals.place_of.Goals as goal

pub returns : goal.returns
returns c =
    let facts = c.binary_search_by_key.ensures in
    let by_object = facts.position (λ one. one.object.0) (answers_always _ _ _ (λ f a r g called. search rules)) in
    rw c.ok.ensures.value (searched-owner c.args.object c.args.owners.now c.binary_search_by_key.result facts.bound by_object)
