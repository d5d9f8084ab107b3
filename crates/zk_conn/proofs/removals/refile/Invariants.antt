use Rattle.std.proofs.Common.{◌<◌, length}
use Rattle.zk_conn.specs.Removals.{AllBut}
use Rattle.zk_conn.proofs.removals.refile.Given as goal

abbrev pub invariant-loop-at : goal.invariant-loop-at
invariant-loop-at l = (l.at < length l.firsts) × (AllBut l.filings l.initial.firsts l.slot → AllBut l.filings l.firsts l.at)

abbrev pub decreases-loop-at : goal.decreases-loop-at
decreases-loop-at l = l.at
