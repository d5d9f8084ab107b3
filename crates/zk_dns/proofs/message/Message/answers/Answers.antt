use Rattle.std.proofs.Common.{◌∙◌, ap, sym, map, is_ok}
use Rattle.zk_dns.specs.Parts.{answer_part, answers_in, parts_of}
use Rattle.zk_dns.proofs.ContentLemmas.{answers-named, answers-data-named}
use Rattle.zk_dns.proofs.MessageLaws.{sections-read}
use Rattle.zk_dns.proofs.message.Message.answers.Goals as goal

pub new-requires : goal.new-requires
new-requires c =
    let is = sections-read _ _ c.args.self.now.read in
    rw c.answer_count.ensures (ap is_ok is.answers_read)

pub returns-clause-parts : goal.returns-clause-parts
returns-clause-parts c =
    let is = sections-read _ _ c.args.self.now.read in
    c.new.ensures ∙ rw c.answer_count.ensures (ap (λ r. map (answer_part (c.args.self.now.bytes)) (parts_of r)) is.answers_read ∙ sym (ap (answers_in c.args.self.now.bytes) is.read))

pub returns-clause-names : goal.returns-clause-names
returns-clause-names c = rw c.new.ensures (answers-named _ c.answer_count.result _)

pub returns-clause-data_names : goal.returns-clause-data_names
returns-clause-data_names c = rw c.new.ensures (answers-data-named _ c.answer_count.result _)
