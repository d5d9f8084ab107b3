use Rattle.std.proofs.Common.{◌+◌, sym}
use Rattle.zk_dns.specs.Sections.{data_len}
use Rattle.zk_dns.proofs.ReadLemmas.{answer-part-is, slice-between}
use Rattle.zk_dns.proofs.parts.AnswerPart.read.Goals as goal

pub returns : goal.returns
returns c = λ resource next found.
    let is = answer-part-is c.args.bytes c.args.place c.record_fields-fields.result resource next c.record_fields-fields.ensures.exact found in
    rw (
      c.u16_at-2.ensures,
      c.u16_at-3.ensures,
      c.u32_at.ensures,
      c.from.ensures,
      c.u16_at.ensures,
      slice-between c.args.bytes (c.record_fields-fields.result + 10) (data_len c.args.bytes.now c.record_fields-fields.result),
    ) (sym is.0, sym is.1)
