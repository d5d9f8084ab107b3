use Rattle.std.proofs.Common.{sum, sym, ap, ◌∙◌}
use Rattle.zk_base.specs.Checksum.{words}
use Rattle.zk_l4.specs.PseudoHeader.{address_bytes}
use Rattle.zk_l4.proofs.pseudo_header.address_sum.Goals as goal

pub returns-in-V6-clause-value : goal.returns-in-V6-clause-value
returns-in-V6-clause-value c = c.ip6_address_sum.ensures.value ∙ ap (λ address. sum (words (address_bytes address))) (sym c.in-V6.is)
