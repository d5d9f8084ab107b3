use Rattle.std.proofs.Common.{sym, ◌∙◌}
use Rattle.zk_tree.specs.Store as object
use Rattle.zk_value.specs.Plain.{key_of}
use Rattle.zk_table.proofs.HeapLemmas.{view_added, number_in, counts_added}
use Rattle.zk_table.proofs.objects.Objects.add_vector.Goals as goal

pub invariant_of-self : goal.invariant_of-self
invariant_of-self c =
    counts_added c.add_vector.result c.self.inside.store c.add_vector.new.self (object.Vector (key_of c.args.items.items)) c.add_vector.ensures.ok c.add_vector.ensures.err ∙ c.self.invariant

pub returns-clause-number : goal.returns-clause-number
returns-clause-number c = number_in c.add_vector.result c.self.inside.store c.self.inside.tables.items c.args.self.now (sym c.self.view_is) c.add_vector.ensures.number

pub returns-clause-ok : goal.returns-clause-ok
returns-clause-ok c =
    view_added c.add_vector.result c.self.inside.store c.add_vector.new.self c.self.inside.tables.items c.args.self.now (object.Vector (key_of c.args.items.items)) (sym c.self.view_is) c.add_vector.ensures.ok
