use Rattle.std.proofs.Common.{arith}
use Rattle.zk_tree.specs.Table as plain
use Rattle.zk_value.specs.Plain.{key_of}
use Rattle.zk_table.proofs.DueLemmas.{indexed-reordered, never-remove}
use Rattle.zk_table.proofs.heap.Heap.remove.Goals as goal

pub invariant_of-self : goal.invariant_of-self
invariant_of-self c =
    let s = c.self.inside in
    indexed-reordered (plain.remove (key_of c.args.key.now)) s.watched.unwatched.items s.watched.objects c.remove.new.self s.firsts c.deref_mut.result.now c.reorder.new.firsts c.args.number.0
    (never-remove (key_of c.args.key.now)) c.remove.ensures c.deref_mut.ensures.value (omega arith) c.reorder.ensures c.self.invariant
