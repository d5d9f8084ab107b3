use Rattle.std.proofs.Common.{◌≡◌, ◌++◌, ◌-◌, true, map, is_ok}
use Rattle.zk_dns.specs.Sections.{question_at, several}
use Rattle.zk_dns.specs.Record.{question_of}
use Rattle.zk_dns.specs.Parts.{parts_of}
use Rattle.zk_dns.proofs.content.questions.Given as goal

-- the questions so far with those that are left are all of them
abbrev pub invariant-loop : goal.invariant-loop
invariant-loop l = record {
  rest : is_ok (several (question_at l.bytes) (l.count - l.counter) l.place) ≡ true;
  all : l.questions.items ++ map question_of (parts_of (several (question_at l.bytes) (l.count - l.counter) l.place))
      ≡ map question_of (parts_of (several (question_at l.bytes) l.count l.start));
}
