use Rattle.std.proofs.Common.{◌≡◌, ◌-◌, ◌≤◌, length}
use Rattle.zk_dns.specs.Ends.{all_end}
use Rattle.zk_dns.proofs.parts.section_end.Given as goal

-- the parts that are left end where all of them do
abbrev pub invariant-loop : goal.invariant-loop
invariant-loop g l = record {
  rest : all_end (g.P.Part.ends l.bytes) l.count l.start ≡ all_end (g.P.Part.ends l.bytes) (l.count - l.counter) l.place;
  within : l.place ≤ length l.bytes;
}
