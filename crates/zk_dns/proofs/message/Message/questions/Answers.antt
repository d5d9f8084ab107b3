use Rattle.std.proofs.Common.{◌∙◌, ap, sym, map, is_ok}
use Rattle.zk_dns.specs.Parts.{question_part, questions_in, parts_of}
use Rattle.zk_dns.proofs.ContentLemmas.{questions-named}
use Rattle.zk_dns.proofs.MessageLaws.{sections-read}
use Rattle.zk_dns.proofs.message.Message.questions.Goals as goal

pub new-requires : goal.new-requires
new-requires c =
    let is = sections-read _ _ c.args.self.now.read in
    rw c.question_count.ensures (ap is_ok is.questions)

pub returns-clause-parts : goal.returns-clause-parts
returns-clause-parts c =
    let is = sections-read _ _ c.args.self.now.read in
    c.new.ensures ∙ rw c.question_count.ensures (ap (λ r. map question_part (parts_of r)) is.questions ∙ sym (ap (questions_in) is.read))

pub returns-clause-names : goal.returns-clause-names
returns-clause-names c = rw c.new.ensures (questions-named _ c.question_count.result _)
