use Rattle.zk_conn.proofs.DueLemmas.{IsEarliest}
use Rattle.zk_conn.proofs.conns.Conns.due.Given as goal

abbrev pub invariant-loop-slot : goal.invariant-loop-slot
invariant-loop-slot l = IsEarliest l.self.slots l.slot l.first
