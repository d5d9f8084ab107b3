use Rattle.std.proofs.Common.{◌≡◌, ◌<◌, ◌≤◌, length}
use Rattle.zk_dns.specs.Ends.{behind_ending, name_end_at}
use Rattle.zk_dns.proofs.NameLemmas.{left_of, told}
use Rattle.zk_dns.proofs.name.name_end.Given as goal

-- the name ends at `next`, if what is left of it can be read
abbrev pub invariant-loop-run : goal.invariant-loop-run
invariant-loop-run l = record {
  rest : name_end_at l.bytes l.fn.bound l.place ≡ told l.next (left_of l.bytes l.start l.run);
  whole : behind_ending l.bytes l.run.place ≤ length l.bytes;
  small : l.run.size < 255;
  within : l.next ≤ l.fn.bound.end;
}

abbrev pub decreases-loop-run : goal.decreases-loop-run
decreases-loop-run l = l.start
