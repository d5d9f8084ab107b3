use Rattle.std.proofs.Common.{sym}
use Rattle.zk_dns.proofs.ReadLemmas.{question-part-is}
use Rattle.zk_dns.proofs.parts.QuestionPart.read.Goals as goal

pub returns : goal.returns
returns c = λ asked next found.
    let is = question-part-is _ _ _ asked next c.question_fields-fields.ensures.exact found in
    rw (c.u16_at.ensures, c.u16_at-2.ensures) (sym is.0, sym is.1)
