use Rattle.std.proofs.Common.{ap}
use Rattle.zk_dns.specs.declared.parts.QuestionPart.{QuestionPart}
use Rattle.zk_dns.proofs.ContentLemmas.{question-named, question-text}
use Rattle.zk_dns.proofs.content.question.Goals as goal

pub name_text-requires-clause-name : goal.name_text-requires-clause-name
name_text-requires-clause-name c = question-named _ _ c.requires.read

pub returns : goal.returns
returns c = λ asked next found.
    let part = c.read-behind.ensures asked next found in
    let name = question-text _ _ asked next _ found c.in_ok-name_text.ensures in
    (λ i. record { name = name i; qtype = ap (λ (q : QuestionPart). q.qtype) part.0 i; qclass = ap (λ (q : QuestionPart). q.qclass) part.0 i }, part.1)
