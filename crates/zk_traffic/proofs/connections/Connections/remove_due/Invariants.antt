use Rattle.std.proofs.Common.{◌≡◌, ◌≤ℤ◌, ℕ, List, ◌++◌, map}
use Rattle.zk_base.specs.declared.time.Moment.{Moment}
use Rattle.zk_traffic.specs.Instances.{in_order, over_between}
use Rattle.zk_traffic.specs.Items.{removed}
use Rattle.zk_traffic.specs.Segments.{Segment}
use Rattle.zk_traffic.specs.Table.{IsCurrent}
use Rattle.zk_traffic.specs.Waiting.{items_in}
use Rattle.zk_traffic.proofs.DueLemmas.{Removing}
use Rattle.zk_traffic.proofs.connections.Connections.remove_due.Given as goal

abbrev pub invariant-loop : goal.invariant-loop
invariant-loop l = record {
  removes : (limit : ℕ) (segments : List Segment) (before : Moment) → IsCurrent l.initial.self.table limit segments before → before.0 ≤ℤ l.t.0
      → Removing l.self.table limit segments l.t (items_in l.self.items) (items_in l.initial.self.items ++ map removed (in_order (over_between limit segments before l.t)));
  news : l.self.news ≡ l.initial.self.news;
}
