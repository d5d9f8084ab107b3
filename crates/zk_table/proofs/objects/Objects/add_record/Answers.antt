use Rattle.std.proofs.Common.{map, sym, ◌∙◌}
use Rattle.zk_tree.specs.Store as object
use Rattle.zk_value.specs.Plain.{field_of}
use Rattle.zk_table.proofs.HeapLemmas.{view_added, number_in, counts_added}
use Rattle.zk_table.proofs.objects.Objects.add_record.Goals as goal

pub invariant_of-self : goal.invariant_of-self
invariant_of-self c =
    counts_added c.add_record.result c.self.inside.store c.add_record.new.self (object.Record c.args.of (map field_of c.args.fields.items)) c.add_record.ensures.ok c.add_record.ensures.err ∙ c.self.invariant

pub returns-clause-number : goal.returns-clause-number
returns-clause-number c = number_in c.add_record.result c.self.inside.store c.self.inside.tables.items c.args.self.now (sym c.self.view_is) c.add_record.ensures.number

pub returns-clause-ok : goal.returns-clause-ok
returns-clause-ok c =
    view_added c.add_record.result c.self.inside.store c.add_record.new.self c.self.inside.tables.items c.args.self.now (object.Record c.args.of (map field_of c.args.fields.items)) (sym c.self.view_is) c.add_record.ensures.ok
