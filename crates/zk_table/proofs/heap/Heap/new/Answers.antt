use Rattle.std.proofs.Common.{rules, ◌≡◌, [], sym, subst}
use Rattle.zk_table.specs.Dues.{IsIndexed}
use Rattle.zk_table.proofs.DueLemmas.{indexed-none}
use Rattle.zk_table.proofs.heap.Heap.new.Goals as goal

pub invariant_of-result : goal.invariant_of-result
invariant_of-result c =
    let marks : c.new-2.result.items ≡ [] = search rules in
    let items : c.new-3.result.items ≡ [] = search rules in
    subst (λ os. IsIndexed os c.new-2.result.items c.new-3.result.items) (sym c.new.ensures)
    (subst (λ ms. IsIndexed [] ms c.new-3.result.items) (sym marks) (subst (λ fs. IsIndexed [] [] fs) (sym items) indexed-none))
