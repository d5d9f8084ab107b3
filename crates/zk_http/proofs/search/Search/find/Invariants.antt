use Rattle.std.proofs.Common.{◌-◌, ◌≤◌, length}
use Rattle.zk_http.specs.Search.{Knows}
use Rattle.zk_http.proofs.search.Search.find.Given as goal

abbrev pub invariant-loop-ahead : goal.invariant-loop-ahead
invariant-loop-ahead l = record {
  seen : l.search.seen ≤ length l.bytes;
  line : l.search.line ≤ l.search.seen;
  lines : l.search.lines ≤ l.search.line;
  text : l.search.text ≤ l.search.line;
  knows : Knows l.fn.self l.ending l.bytes → Knows l.search l.ending l.bytes;
}

abbrev pub decreases-loop-ahead : goal.decreases-loop-ahead
decreases-loop-ahead l = length l.bytes - l.search.seen
