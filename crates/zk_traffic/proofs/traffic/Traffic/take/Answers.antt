use Rattle.std.proofs.Common.{◌≡◌, ◌≤ℤ◌, ◌++◌, map, length, refl, sym, ap, subst, ◌∙◌}
use Rattle.zk_base.specs.declared.time.Moment.{Moment}
use Rattle.zk_base.specs.Captured.{Captured, captured}
use Rattle.zk_base.specs.NetworkTime.{later, now, now-append}
use Rattle.zk_traffic.specs.declared.item.What.TheVariants as what
use Rattle.zk_traffic.specs.Datagram.{time_at}
use Rattle.zk_traffic.specs.Instances.{in_order, over_between}
use Rattle.zk_traffic.specs.Items.{item, removed, when}
use Rattle.zk_traffic.specs.News.{runs_of}
use Rattle.zk_traffic.specs.Segments.{segments}
use Rattle.zk_traffic.specs.Standing.{IsTable}
use Rattle.zk_traffic.specs.Steps.{Step}
use Rattle.zk_traffic.specs.Table.{IsCurrent}
use Rattle.zk_traffic.specs.Waiting.{items_in}
use Rattle.zk_traffic.proofs.GivenLemmas.{on_ok}
use Rattle.zk_traffic.proofs.RecordLemmas.{not_before, stands_with}
use Rattle.zk_traffic.proofs.traffic.Traffic.take.Goals as goal

pub returns : goal.returns
returns c = record {
  taken = on_ok c.take_frame.result c.take_frame.ensures.taken (λ taken h stands goes_on.
      let p = c.args.p.now in
      let options = h.options in
      let records = h.records in
      let last = captured h.link p in
      let step : Step Captured = record { before = records; last = last } in
      let segs = segments options records in
      let t = c.latest-self.result in
      let t_is : t ≡ time_at step = c.latest-self.ensures ∙ ap (λ m. later m p.moment) stands.time_is ∙ sym (now-append records last) in
      let behind : (now records).0 ≤ℤ t.0 = subst (λ (m : Moment). (now records).0 ≤ℤ m.0) (sym t_is) (not_before records last) in
      let table_is = subst (IsTable c.args.self.now.connections.table options.buffer segs (now records)) goes_on stands.table_is in
      let due = c.in_ok-remove_due.ensures.removed options.buffer segs (now records) (subst (λ x. IsCurrent x options.buffer segs (now records)) (sym c.begin.ensures.table) table_is) behind in
      let old_items = items_in c.args.self.now.connections.items in
      let news_are = c.give_seen.ensures.news ∙ c.remove_due.ensures.news in
      stands_with c.args.self.now _ c.take_frame.new.self h last stands goes_on refl
      (taken options step refl (record {
        options_are = stands.options_are;
        link_is = stands.link_is;
        time_is = t_is;
        frags_are = stands.frags_are;
        current = subst (λ x. IsCurrent x options.buffer segs (time_at step)) (sym c.give_seen.ensures.table) (subst (IsCurrent c.remove_due.new.self.table options.buffer segs) t_is due.0);
        no_runs = ap runs_of news_are ∙ c.begin.ensures.runs;
        no_gaps = ap (λ n. n.gaps.items) news_are ∙ c.begin.ensures.gaps;
        no_units = ap (λ n. n.«units».items) news_are ∙ c.begin.ensures.units;
      }))
      (c.take_frame.ensures.works ∙ stands.works)
      (c.in_ok-give_seen.ensures.items
      ∙ ap (λ l. l ++ when c.args.self.now.options.packets (item t (what.Seen p.moment (length p.bytes.now) p.orig_len)))
      (due.1 ∙ ap (λ q. items_in q ++ map removed (in_order (over_between options.buffer segs (now records) t))) c.begin.ensures.items)
      ∙ ap (λ m. old_items ++ map removed (in_order (over_between options.buffer segs (now records) m)) ++ when c.args.self.now.options.packets (item m (what.Seen p.moment (length p.bytes.now) p.orig_len))) t_is
      ∙ ap (λ o. old_items ++ map removed (in_order (over_between options.buffer segs (now records) (time_at step))) ++ when o.packets (item (time_at step) (what.Seen p.moment (length p.bytes.now) p.orig_len))) stands.options_are));
}
