use Rattle.std.proofs.Common.{◌≡◌, ℕ, List, ◌++◌, map}
use Rattle.zk_traffic.specs.Instances.{live_at}
use Rattle.zk_traffic.specs.Items.{removed_at}
use Rattle.zk_traffic.specs.Segments.{Segment}
use Rattle.zk_traffic.specs.Table.{IsCurrent}
use Rattle.zk_traffic.specs.Waiting.{items_in}
use Rattle.zk_traffic.proofs.DueLemmas.{EndingAll}
use Rattle.zk_traffic.proofs.connections.Connections.end.Given as goal

abbrev pub invariant-loop : goal.invariant-loop
invariant-loop l = record {
  removes : (limit : ℕ) (segments : List Segment) → IsCurrent l.initial.self.table limit segments l.last
      → EndingAll l.self.table limit segments l.last (items_in l.self.items) (items_in l.initial.self.items ++ map (removed_at l.last) (live_at limit segments l.last));
  news : l.self.news ≡ l.initial.self.news;
}
