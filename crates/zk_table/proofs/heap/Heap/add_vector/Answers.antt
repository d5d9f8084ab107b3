use Rattle.std.proofs.Common.{refl}
use Rattle.zk_tree.specs.Store as object
use Rattle.zk_value.specs.Plain.{key_of}
use Rattle.zk_table.proofs.DueLemmas.{indexed-added}
use Rattle.zk_table.proofs.heap.Heap.add_vector.Goals as goal

pub invariant_of-self : goal.invariant_of-self
invariant_of-self c =
    let s = c.self.inside in
    indexed-added c.add_vector.result s.watched.unwatched.items s.watched.objects c.add_vector.new.self (object.Vector (key_of c.args.items.items)) s.firsts.items refl
    c.add_vector.ensures.ok c.add_vector.ensures.err c.self.invariant
