use Rattle.std.proofs.Common.{sym}
use Rattle.std.proofs.lemmas.Result.{err_from_is_err_and}
use Rattle.zk_dns.proofs.MessageLaws.{message-found, message-only}
use Rattle.zk_dns.proofs.PartLemmas.{record-fault, record-ok}
use Rattle.zk_dns.proofs.message.Message.read.Goals as goal

pub returns-in_err-answers-clause-fault : goal.returns-in_err-answers-clause-fault
returns-in_err-answers-clause-fault c =
    let p = err_from_is_err_and c.from_residual.result c.from_residual.ensures.1 in
    rw (p.1, p.2) (record-fault c.args.bytes.now c.in_err-answers.field-0.0 (sym c.in_err-answers.ensures))

pub returns-in_err-answers-clause-meaning : goal.returns-in_err-answers-clause-meaning
returns-in_err-answers-clause-meaning c = λ told. (message-only c.args.bytes.now told, message-found c.args.bytes.now told)

pub returns-clause-fault : goal.returns-clause-fault
returns-clause-fault c = record-ok c.args.bytes.now c.in_ok-answers.answers (sym c.in_ok-answers.ensures)

pub returns-clause-meaning : goal.returns-clause-meaning
returns-clause-meaning c = λ told. (message-only c.args.bytes.now told, message-found c.args.bytes.now told)
