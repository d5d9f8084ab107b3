use Rattle.std.proofs.Common.{◌∙◌, arith}
use Rattle.zk_dns.specs.Sections.{resource_at}
use Rattle.zk_dns.specs.Record.{answer_of}
use Rattle.zk_dns.proofs.ReadLemmas.{several-first, several-grown, several-made}
use Rattle.zk_dns.proofs.content.answers.Goals as goal

pub answer-requires-clause-read : goal.answer-requires-clause-read
answer-requires-clause-read c = several-first (resource_at c.args.bytes.now) _ _ (omega arith) c.loop.invariant.rest

pub loop-preserved : goal.loop-preserved
loop-preserved c =
    let grown = several-grown (resource_at c.args.bytes.now) answer_of c.loop.answers.items _ _ _ _ _ _ c.loop-test.true
    c.loop.invariant.rest c.loop.invariant.all c.in_ok-answer.ensures in
    rw c.in_ok-push.ensures.items (record { rest = grown.0; all = grown.1 })

pub returns : goal.returns
returns c =
    c.from.ensures ∙ several-made (resource_at c.args.bytes.now) answer_of _ _ _ _ (omega (arith, c.loop-test.false)) c.loop.invariant.all
