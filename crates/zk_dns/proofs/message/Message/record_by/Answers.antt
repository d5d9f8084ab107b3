use Rattle.std.proofs.Common.{ap, is_ok}
use Rattle.zk_dns.proofs.MessageLaws.{message-found, record-known, sections-read}
use Rattle.zk_dns.proofs.message.Message.record_by.Goals as goal

pub questions-requires-clause-read : goal.questions-requires-clause-read
questions-requires-clause-read c = rw c.question_count.ensures (ap is_ok (sections-read _ _ c.args.self.now.read).questions)

pub answers-requires-clause-read : goal.answers-requires-clause-read
answers-requires-clause-read c = rw c.answer_count.ensures (ap is_ok (sections-read _ _ c.args.self.now.read).answers_read)

pub returns-clause-record : goal.returns-clause-record
returns-clause-record c =
    rw c.record_with.ensures (record-known _ _ _ _ c.args.self.now.read
    (rw c.question_count.ensures at c.in_ok-questions.ensures) (rw c.answer_count.ensures at c.in_ok-answers.ensures))

pub returns-clause-meaning : goal.returns-clause-meaning
returns-clause-meaning c =
    message-found _ _ (rw c.record_with.ensures (record-known _ _ _ _ c.args.self.now.read
    (rw c.question_count.ensures at c.in_ok-questions.ensures) (rw c.answer_count.ensures at c.in_ok-answers.ensures)))
