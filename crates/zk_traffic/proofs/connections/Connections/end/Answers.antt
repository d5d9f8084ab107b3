use Rattle.zk_traffic.proofs.DueLemmas.{EndingAll, ending, ending-done, ending-one}
use Rattle.std.proofs.Common.{refl, ◌++◌, map, subst, sym}
use Rattle.zk_traffic.specs.Instances.{live_at}
use Rattle.zk_traffic.specs.Items.{removed_at}
use Rattle.zk_traffic.specs.Waiting.{items_in}
use Rattle.zk_traffic.proofs.connections.Connections.end.Goals as goal

pub loop-init : goal.loop-init
loop-init c = record {
  removes = λ limit segments current. ending c.args.self.now.table limit segments c.args.last (items_in c.args.self.now.items) current;
  news = refl;
}

pub returns-in-None-clause-removed : goal.returns-in-None-clause-removed
returns-in-None-clause-removed c = λ limit segments current.
    let was = c.loop.invariant.removes limit segments current in
    let none = c.in-None.ensures.none limit segments was.gone was.told was.holds in
    ending-done c.loop.self.table c.end.new.self limit segments c.args.last (items_in c.loop.self.items) _ was none.0 none.1

pub loop-preserved : goal.loop-preserved
loop-preserved c = record {
  removes = λ limit segments current.
      let was = c.loop.invariant.removes limit segments current in
      let found = c.in-Some.ensures.removed limit segments was.gone was.told was.holds in
      subst (λ l. EndingAll c.end.new.self limit segments c.args.last l (items_in c.args.self.now.items ++ map (removed_at c.args.last) (live_at limit segments c.args.last))) (sym c.in_ok-give_removed-in-Some.ensures)
      (ending-one c.loop.self.table c.end.new.self limit segments c.args.last (items_in c.loop.self.items) (items_in c.args.self.now.items ++ map (removed_at c.args.last) (live_at limit segments c.args.last)) c.in-Some.removed was found.0 found.1);
  news = c.loop.invariant.news;
}
