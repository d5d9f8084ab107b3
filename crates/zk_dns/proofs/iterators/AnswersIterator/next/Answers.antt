use Rattle.std.proofs.Common.{length, ap, rules}
use Rattle.zk_dns.specs.Sections.{resource_at}
use Rattle.zk_dns.specs.Parts.{answer_part}
use Rattle.zk_dns.proofs.ReadLemmas.{several-first, several-none, several-step}
use Rattle.zk_dns.proofs.iterators.AnswersIterator.next.Goals as goal

pub returns-then-self-eq0-clause-steps : goal.returns-then-self-eq0-clause-steps
returns-then-self-eq0-clause-steps c =
    let old = c.args.self.now in
    let none = several-none (resource_at old.bytes.now) (answer_part c.args.self.now.bytes) old.left old.place c.if-self-eq0.true in
    (none, none)

pub read-behind-requires : goal.read-behind-requires
read-behind-requires c =
    let old = c.args.self.now in
    several-first (resource_at old.bytes.now) old.left old.place c.if-self-eq0.false old.stand

pub invariant_of-self : goal.invariant_of-self
invariant_of-self c =
    let old = c.args.self.now in
    record {
      stand = (several-step (resource_at old.bytes.now) (answer_part c.args.self.now.bytes) old.left old.place c.read-behind.result.0 c.read-behind.result.1
          c.if-self-eq0.false old.stand c.read-behind.ensures).0;
    }

pub returns-clause-steps : goal.returns-clause-steps
returns-clause-steps c =
    let old = c.args.self.now in
    (several-step (resource_at old.bytes.now) (answer_part c.args.self.now.bytes) old.left old.place c.read-behind.result.0 c.read-behind.result.1
    c.if-self-eq0.false old.stand c.read-behind.ensures).1

pub returns-clause-goes : goal.returns-clause-goes
returns-clause-goes c =
    let old = c.args.self.now in
    let step = several-step (resource_at old.bytes.now) (answer_part c.args.self.now.bytes) old.left old.place c.read-behind.result.0 c.read-behind.result.1
    c.if-self-eq0.false old.stand c.read-behind.ensures in
    let shorter = ap length step.1 in search rules
