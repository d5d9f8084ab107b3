use Rattle.std.proofs.Common.{map, refl, sym}
use Rattle.zk_tree.specs.Store as object
use Rattle.zk_value.specs.Plain.{key_of, field_of}
use Rattle.zk_table.proofs.HeapLemmas.{no_table_object, no_table_none}
use Rattle.zk_table.proofs.objects.place.Goals as goal

pub returns-in-Record-clause-none : goal.returns-in-Record-clause-none
returns-in-Record-clause-none c =
    no_table_object c.args.store.now c.args.number.0 (object.Record c.in-Record.of (map field_of c.in-Record.fields.now)) (sym (rw c.in-Record.is at c.in-Some.ensures.object)) (λ change. refl)

pub returns-in-Vector-clause-none : goal.returns-in-Vector-clause-none
returns-in-Vector-clause-none c =
    no_table_object c.args.store.now c.args.number.0 (object.Vector (key_of c.in-Vector.field-0.now)) (sym (rw c.in-Vector.is at c.in-Some.ensures.object)) (λ change. refl)

pub returns-in-None-clause-none : goal.returns-in-None-clause-none
returns-in-None-clause-none c = no_table_none c.args.store.now c.args.number.0 (sym c.in-None.ensures.object)
