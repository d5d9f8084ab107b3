use Rattle.std.proofs.Common.{map, length, slice_get, refl, sym, ap, ◌∙◌, arith}
use Rattle.std.proofs.lemmas.Option.{slice_get_read}
use Rattle.zk_tree.specs.Store as object
use Rattle.zk_value.specs.Plain.{key_of, field_of}
use Rattle.zk_table.proofs.HeapLemmas.{object_is, table_is, none-with_tables, place_inside}
use Rattle.zk_table.proofs.objects.Objects.object.Goals as goal

pub returns-in-Record : goal.returns-in-Record
returns-in-Record c = let s = c.self.inside in
    object_is s.store s.tables.items c.args.self.now c.args.number.0 (object.Record c.in-Record.of (map field_of c.in-Record.fields.now)) (sym c.self.view_is)
    (rw c.in-Record.is at c.in-Some.ensures.object)

pub returns-in-Vector : goal.returns-in-Vector
returns-in-Vector c = let s = c.self.inside in
    object_is s.store s.tables.items c.args.self.now c.args.number.0 (object.Vector (key_of c.in-Vector.items.now)) (sym c.self.view_is)
    (rw c.in-Vector.is at c.in-Some.ensures.object)

pub returns-in-None : goal.returns-in-None
returns-in-None c = let s = c.self.inside in
    sym (none-with_tables s.store s.tables.items c.args.number.0 (sym c.in-None.ensures.object)) ∙ ap (λ os. slice_get os c.args.number.0) c.self.view_is

pub returns-in-Some-get : goal.returns-in-Some-get
returns-in-Some-get c = let s = c.self.inside in
    table_is s.store s.tables.items c.args.self.now c.args.number.0 c.in-Table.place c.in-Some-get.table.now (sym c.self.view_is)
    (rw c.in-Table.is at c.in-Some.ensures.place) (
    ap (λ ts. slice_get ts c.in-Table.place) (sym c.deref.ensures.value)
    ∙ slice_get_read c.deref.result.now (length c.deref.result.now) c.in-Table.place c.in-Some-get.table.now refl c.in-Some-get.ensures.lookup.3.0 c.in-Some-get.ensures.lookup.1
    )

pub returns-in-None-get : goal.returns-in-None-get
returns-in-None-get c = let s = c.self.inside in
    let inside = place_inside s.store s.tables.items c.args.number.0 c.in-Table.place c.self.invariant (sym (rw c.in-Table.is at c.in-Some.ensures.place)) in
    let same = ap length c.deref.ensures.value in
    absurd (omega (arith, inside, c.in-None-get.ensures.lookup.3, same))
