use Rattle.std.proofs.Common.{◌≡◌, Ok, Err, OnOk, slice_set, sym, arith}
use Rattle.zk_tree.specs.Table as plain
use Rattle.zk_value.specs.Objects.{with_tables}
use Rattle.zk_value.specs.Plain.{key_of, value_of}
use Rattle.zk_table.specs.Heap.{changed, in_table}
use Rattle.zk_table.proofs.HeapLemmas.{place_inside, view_table, view_no_table}
use Rattle.zk_table.proofs.objects.Objects.insert.Goals as goal

pub index_mut-requires : goal.index_mut-requires
index_mut-requires c =
    let s = c.self.inside in
    let inside = place_inside s.store s.tables.items c.args.number.0 c.in-Some.place c.self.invariant c.in-Some.ensures.found in
    omega (arith, s.tables.ok.0)

pub returns-in-Some-clause-ok : goal.returns-in-Some-clause-ok
returns-in-Some-clause-ok c =
    let s = c.self.inside in
    let change = plain.insert c.args.now (key_of c.args.key) (value_of c.args.value) in
    elim c.insert.result as (λ r. OnOk r (c.insert.new.self ≡ change c.index_mut.result.now)
    → OnOk r (with_tables s.store (slice_set s.tables.items c.in-Some.place c.insert.new.self) ≡ changed (in_table change) c.args.number.0 c.args.self.now)) [
      | Ok a ↦ λ ok. view_table change s.store s.tables.items c.args.self.now c.args.number.0 c.in-Some.place c.index_mut.result.now c.insert.new.self
          (sym c.self.view_is) c.self.invariant c.in-Some.ensures.found c.index_mut.ensures.value ok
      | Err e ↦ λ ok. ok
    ] c.insert.ensures.ok

pub returns-in-None-clause-ok : goal.returns-in-None-clause-ok
returns-in-None-clause-ok c =
    let s = c.self.inside in
    view_no_table (plain.insert c.args.now (key_of c.args.key) (value_of c.args.value)) s.store s.tables.items c.args.self.now c.args.number.0
    (sym c.self.view_is) c.self.invariant c.in-None.ensures.none
