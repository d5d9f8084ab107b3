use Rattle.std.proofs.Common.{Some, ap, ◌∙◌, w8, arith}
use Rattle.std.proofs.lemmas.List.{get_or-set_same, get_or-set_other}
use Rattle.std.proofs.lemmas.Nat.Bits.{bit_at_set_same, bit_at_set_other}
use Rattle.zk_reasm.proofs.PageLemmas.{byte_on-held, byte_on-same}
use Rattle.zk_reasm.proofs.page.Page.set.Goals as goal

pub returns-clause-here : goal.returns-clause-here
returns-clause-here c =
    byte_on-held _ c.args.at c.requires (bit_at_set_same w8 c.args.self.now.has c.args.at (omega arith))
    ∙ ap Some (get_or-set_same c.args.self.now.bytes c.args.at c.args.byte 0 (omega arith))

pub returns-clause-others : goal.returns-clause-others
returns-clause-others c = λ other apart.
    byte_on-same c.args.self.now _ other (λ low. bit_at_set_other w8 c.args.self.now.has c.args.at (omega arith) other apart)
    (get_or-set_other c.args.self.now.bytes c.args.at other c.args.byte 0 apart)
