use Rattle.zk_value.specs.Objects.{with_field}
use Rattle.zk_value.specs.Plain.{field_of}
use Rattle.zk_table.proofs.DueLemmas.{indexed-kept, with_field-keeps}
use Rattle.zk_table.proofs.heap.Heap.set_field.Goals as goal

pub invariant_of-self : goal.invariant_of-self
invariant_of-self c =
    let s = c.self.inside in
    let value = field_of c.args.value in
    rw c.set_field.ensures (indexed-kept (with_field c.args.field value) s.watched.unwatched.items s.watched.objects c.args.number.0 s.firsts.items (with_field-keeps c.args.field value) c.self.invariant)
