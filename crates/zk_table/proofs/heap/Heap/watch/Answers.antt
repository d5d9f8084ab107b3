use Rattle.std.proofs.Common.{refl, true, subst, arith}
use Rattle.std.specs.Vec.{with_items}
use Rattle.zk_table.specs.Dues.{Held, StaysWatchedBut}
use Rattle.zk_table.proofs.DueLemmas.{indexed-marked, marked-one, marked-others, stays-but}
use Rattle.zk_table.proofs.heap.Heap.watch.Goals as goal

pub invariant_of-self : goal.invariant_of-self
invariant_of-self c =
    let s = c.self.inside in
    let marks = s.watched.unwatched in
    let number = c.args.number.0 in
    indexed-marked marks.items (with_items marks c.mark.new.unwatched).items s.watched.objects s.firsts c.deref_mut-2.result.now c.reorder.new.firsts number
    (marked-others marks c.deref_mut.result.now c.mark.new.unwatched number c.deref_mut.ensures.value (omega arith) c.mark.ensures.others)
    c.deref_mut-2.ensures.value (omega arith) c.reorder.ensures c.self.invariant

pub returns-clause-watched : goal.returns-clause-watched
returns-clause-watched c =
    let s = c.self.inside in
    marked-one s.watched.unwatched c.mark.new.unwatched c.args.number.0 true (omega arith) (c.mark.ensures.clear refl)

pub returns-clause-others : goal.returns-clause-others
returns-clause-others c =
    let s = c.self.inside in
    let marks = s.watched.unwatched in
    let number = c.args.number.0 in
    subst (λ (held : Held). StaysWatchedBut number held.unwatched (with_items marks c.mark.new.unwatched).items) c.self.view_is
    (stays-but number marks.items (with_items marks c.mark.new.unwatched).items
    (marked-others marks c.deref_mut.result.now c.mark.new.unwatched number c.deref_mut.ensures.value (omega arith) c.mark.ensures.others))
