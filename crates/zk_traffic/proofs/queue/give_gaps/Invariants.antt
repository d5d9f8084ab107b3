use Rattle.std.proofs.Common.{◌≡◌, ◌++◌, map, take}
use Rattle.zk_conn.specs.declared.facts.Facts.{Facts}
use Rattle.zk_traffic.specs.Queue.{Knows, gap_item}
use Rattle.zk_traffic.specs.Waiting.{items_in}
use Rattle.zk_traffic.proofs.queue.give_gaps.Given as goal

abbrev pub invariant-loop-gap : goal.invariant-loop-gap
invariant-loop-gap l = (known : Facts) → Knows l.table l.conn known → items_in l.items ≡ items_in l.initial.items ++ map (gap_item l.t l.conn known) (take l.gap-index l.gaps)
