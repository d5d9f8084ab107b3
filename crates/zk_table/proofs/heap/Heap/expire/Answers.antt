use Rattle.std.proofs.Common.{arith}
use Rattle.zk_tree.specs.Table as plain
use Rattle.zk_table.proofs.DueLemmas.{indexed-reordered, never-expire}
use Rattle.zk_table.proofs.heap.Heap.expire.Goals as goal

pub invariant_of-self : goal.invariant_of-self
invariant_of-self c =
    let s = c.self.inside in
    indexed-reordered (plain.expire c.args.order c.args.wait) s.watched.unwatched.items s.watched.objects c.expire.new.self s.firsts c.deref_mut.result.now c.reorder.new.firsts c.args.number.0
    (never-expire c.args.order c.args.wait) c.expire.ensures c.deref_mut.ensures.value (omega arith) c.reorder.ensures c.self.invariant
