use Rattle.zk_value.specs.Objects.{with_item}
use Rattle.zk_value.specs.Plain.{value_of}
use Rattle.zk_table.proofs.DueLemmas.{indexed-kept, with_item-keeps}
use Rattle.zk_table.proofs.heap.Heap.set_item.Goals as goal

pub invariant_of-self : goal.invariant_of-self
invariant_of-self c =
    let s = c.self.inside in
    let item = value_of c.args.item in
    rw c.set_item.ensures (indexed-kept (with_item c.args.index item) s.watched.unwatched.items s.watched.objects c.args.number.0 s.firsts.items (with_item-keeps c.args.index item) c.self.invariant)
