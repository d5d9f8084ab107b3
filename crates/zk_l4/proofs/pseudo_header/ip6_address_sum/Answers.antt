use Rattle.std.proofs.Common.{sum, ap, ◌∙◌}
use Rattle.zk_base.specs.Checksum.{words}
use Rattle.zk_l4.proofs.pseudo_header.ip6_address_sum.Goals as goal

pub returns-clause-value : goal.returns-clause-value
returns-clause-value c = c.word_sum.ensures.value ∙ ap (λ bytes. sum (words bytes)) c.to_be_bytes.ensures
