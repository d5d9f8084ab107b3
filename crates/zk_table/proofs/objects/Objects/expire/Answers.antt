use Rattle.std.proofs.Common.{sym, arith}
use Rattle.zk_tree.specs.Table as plain
use Rattle.zk_table.proofs.HeapLemmas.{place_inside, view_table, view_no_table}
use Rattle.zk_table.proofs.objects.Objects.expire.Goals as goal

pub index_mut-requires : goal.index_mut-requires
index_mut-requires c =
    let s = c.self.inside in
    let inside = place_inside s.store s.tables.items c.args.number.0 c.in-Some.place c.self.invariant c.in-Some.ensures.found in
    omega (arith, s.tables.ok.0)

pub returns-in-Some : goal.returns-in-Some
returns-in-Some c =
    let s = c.self.inside in
    view_table (plain.expire c.args.order c.args.wait) s.store s.tables.items c.args.self.now c.args.number.0 c.in-Some.place c.index_mut.result.now c.expire.new.self
    (sym c.self.view_is) c.self.invariant c.in-Some.ensures.found c.index_mut.ensures.value c.expire.ensures.expired

pub returns-in_default : goal.returns-in_default
returns-in_default c =
    let s = c.self.inside in
    view_no_table (plain.expire c.args.order c.args.wait) s.store s.tables.items c.args.self.now c.args.number.0 (sym c.self.view_is) c.self.invariant c.in_default.ensures.none
