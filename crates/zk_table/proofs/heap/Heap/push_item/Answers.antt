use Rattle.zk_value.specs.Objects.{with_item_behind}
use Rattle.zk_value.specs.Plain.{value_of}
use Rattle.zk_table.proofs.DueLemmas.{indexed-pushed, with_item_behind-keeps}
use Rattle.zk_table.proofs.heap.Heap.push_item.Goals as goal

pub invariant_of-self : goal.invariant_of-self
invariant_of-self c =
    let s = c.self.inside in
    let item = value_of c.args.item in
    indexed-pushed c.push_item.result (with_item_behind item) s.watched.unwatched.items s.watched.objects c.push_item.new.self c.args.number.0 s.firsts.items (with_item_behind-keeps item)
    c.push_item.ensures.ok c.push_item.ensures.err c.self.invariant
