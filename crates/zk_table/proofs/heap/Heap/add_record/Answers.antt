use Rattle.std.proofs.Common.{map, refl}
use Rattle.zk_tree.specs.Store as object
use Rattle.zk_value.specs.Plain.{field_of}
use Rattle.zk_table.proofs.DueLemmas.{indexed-added}
use Rattle.zk_table.proofs.heap.Heap.add_record.Goals as goal

pub invariant_of-self : goal.invariant_of-self
invariant_of-self c =
    let s = c.self.inside in
    indexed-added c.add_record.result s.watched.unwatched.items s.watched.objects c.add_record.new.self (object.Record c.args.of (map field_of c.args.fields.items)) s.firsts.items refl
    c.add_record.ensures.ok c.add_record.ensures.err c.self.invariant
