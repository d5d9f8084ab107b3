use Rattle.std.proofs.Common.{◌∙◌, arith}
use Rattle.zk_dns.specs.Sections.{question_at}
use Rattle.zk_dns.specs.Record.{question_of}
use Rattle.zk_dns.proofs.ReadLemmas.{several-first, several-grown, several-made}
use Rattle.zk_dns.proofs.content.questions.Goals as goal

pub question-requires-clause-read : goal.question-requires-clause-read
question-requires-clause-read c = several-first (question_at c.args.bytes.now) _ _ (omega arith) c.loop.invariant.rest

pub loop-preserved : goal.loop-preserved
loop-preserved c =
    let grown = several-grown (question_at c.args.bytes.now) question_of c.loop.questions.items _ _ _ _ _ _ c.loop-test.true
    c.loop.invariant.rest c.loop.invariant.all c.in_ok-question.ensures in
    rw c.in_ok-push.ensures.items (record { rest = grown.0; all = grown.1 })

pub returns : goal.returns
returns c =
    c.from.ensures ∙ several-made (question_at c.args.bytes.now) question_of _ _ _ _ (omega (arith, c.loop-test.false)) c.loop.invariant.all
