use Rattle.std.proofs.Common.{List, count_by}
use Rattle.zk_conn.specs.Standing.{StandsFor}
use Rattle.zk_conn.specs.Table.{is_stale}
use Rattle.zk_conn.specs.Told.{Told}
use Rattle.zk_conn.proofs.conns.Conns.settle.Given as goal

abbrev pub invariant-loop-slot : goal.invariant-loop-slot
invariant-loop-slot l = (told : List Told) → StandsFor l.initial.self told → StandsFor l.self told

abbrev pub decreases-loop-slot : goal.decreases-loop-slot
decreases-loop-slot l = count_by is_stale l.self.slots.slots
