use Rattle.std.proofs.Common.{◌-◌, ◌≡◌, ◌<◌}
use Rattle.zk_dns.specs.Ends.{run_end_at}
use Rattle.zk_dns.proofs.name.run_end.Given as goal

-- what is left of the run ends where all of it does
abbrev pub invariant-loop-place : goal.invariant-loop-place
invariant-loop-place l = record {
  rest : run_end_at l.bytes l.bound l.fn.size l.start ≡ run_end_at l.bytes l.bound l.size l.place;
  small : l.size < 255;
}

abbrev pub decreases-loop-place : goal.decreases-loop-place
decreases-loop-place l = l.bound.end - l.place
