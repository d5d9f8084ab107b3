use Rattle.std.proofs.Common.{◌≤◌, length}
use Rattle.zk_dns.specs.Skips.{AreSkips}
use Rattle.zk_dns.proofs.skips.fill.Given as goal

abbrev pub invariant-loop-place : goal.invariant-loop-place
invariant-loop-place l = record {
  are : AreSkips l.bytes l.skips;
  places : length l.skips ≤ 0x4000;
}
