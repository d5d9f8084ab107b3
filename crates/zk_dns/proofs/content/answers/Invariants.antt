use Rattle.std.proofs.Common.{◌≡◌, ◌++◌, ◌-◌, true, map, is_ok}
use Rattle.zk_dns.specs.Sections.{resource_at, several}
use Rattle.zk_dns.specs.Record.{answer_of}
use Rattle.zk_dns.specs.Parts.{parts_of}
use Rattle.zk_dns.proofs.content.answers.Given as goal

-- the answers so far with those that are left are all of them
abbrev pub invariant-loop : goal.invariant-loop
invariant-loop l = record {
  rest : is_ok (several (resource_at l.bytes) (l.count - l.counter) l.place) ≡ true;
  all : l.answers.items ++ map answer_of (parts_of (several (resource_at l.bytes) (l.count - l.counter) l.place))
      ≡ map answer_of (parts_of (several (resource_at l.bytes) l.count l.start));
}
