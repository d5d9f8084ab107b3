use Rattle.std.proofs.Common.{◌≡◌, ◌++◌, map}
use Rattle.std.specs.VecDeque.{deque_len}
use Rattle.zk_conn.specs.declared.facts.Facts.{Facts}
use Rattle.zk_traffic.specs.Items.{unit_item}
use Rattle.zk_traffic.specs.Queue.{Knows}
use Rattle.zk_traffic.specs.Waiting.{items_in}
use Rattle.zk_traffic.proofs.queue.give_units.Given as goal

abbrev pub invariant-loop-freed : goal.invariant-loop-freed
invariant-loop-freed l = (known : Facts) → Knows l.table l.conn known
    → items_in l.items ++ map (unit_item l.t l.conn known) l.«units».items ≡ items_in l.initial.items ++ map (unit_item l.t l.conn known) l.initial.«units».items

abbrev pub decreases-loop-freed : goal.decreases-loop-freed
decreases-loop-freed l = deque_len l.«units»
