use Rattle.zk_traffic.proofs.DueLemmas.{Removing, removing, removing-done, removing-one}
use Rattle.std.proofs.Common.{refl, ◌++◌, map, subst, sym}
use Rattle.zk_traffic.specs.Instances.{in_order, over_between}
use Rattle.zk_traffic.specs.Items.{removed}
use Rattle.zk_traffic.specs.Waiting.{items_in}
use Rattle.zk_traffic.proofs.connections.Connections.remove_due.Goals as goal

pub loop-init : goal.loop-init
loop-init c = record {
  removes = λ limit segments before current later. removing c.args.self.now.table limit segments before c.args.t (items_in c.args.self.now.items) current later;
  news = refl;
}

pub returns-in-None-clause-removed : goal.returns-in-None-clause-removed
returns-in-None-clause-removed c = λ limit segments before current later.
    let was = c.loop.invariant.removes limit segments before current later in
    let none = c.in-None.ensures.none limit segments was.gone was.told was.holds in
    removing-done c.loop.self.table c.remove_due.new.self limit segments c.args.t (items_in c.loop.self.items) _ was none.0 none.1

pub loop-preserved : goal.loop-preserved
loop-preserved c = record {
  removes = λ limit segments before current later.
      let was = c.loop.invariant.removes limit segments before current later in
      let found = c.in-Some.ensures.removed limit segments was.gone was.told was.holds in
      subst (λ l. Removing c.remove_due.new.self limit segments c.args.t l (items_in c.args.self.now.items ++ map removed (in_order (over_between limit segments before c.args.t)))) (sym c.in_ok-give_removed-in-Some.ensures)
      (removing-one c.loop.self.table c.remove_due.new.self limit segments c.args.t (items_in c.loop.self.items) (items_in c.args.self.now.items ++ map removed (in_order (over_between limit segments before c.args.t))) c.in-Some.removed was found.0 found.1);
  news = c.loop.invariant.news;
}
