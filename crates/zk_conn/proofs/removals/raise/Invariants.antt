use Rattle.std.proofs.Common.{◌<◌, length, List, Option}
use Rattle.zk_conn.specs.declared.removals.Filing.{Filing}
use Rattle.zk_conn.specs.Removals.{IsRaised}
use Rattle.zk_conn.proofs.removals.raise.Given as goal

abbrev pub invariant-loop-filing : goal.invariant-loop-filing
invariant-loop-filing l =
    (l.at < length l.firsts) × ((filings : List (Option Filing)) → IsRaised filings l.initial.firsts l.slot l.filing → IsRaised filings l.firsts l.at l.filing)

abbrev pub decreases-loop-filing : goal.decreases-loop-filing
decreases-loop-filing l = l.at
