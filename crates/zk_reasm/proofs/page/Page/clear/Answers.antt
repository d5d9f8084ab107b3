use Rattle.std.proofs.Common.{w8, refl, arith}
use Rattle.std.proofs.lemmas.Nat.Bits.{bit_at_clear_same, bit_at_clear_other}
use Rattle.zk_reasm.proofs.PageLemmas.{byte_on-free, byte_on-same}
use Rattle.zk_reasm.proofs.page.Page.clear.Goals as goal

pub returns-clause-here : goal.returns-clause-here
returns-clause-here c = byte_on-free _ c.args.at c.requires (bit_at_clear_same w8 c.args.self.now.has c.args.at (omega arith))

pub returns-clause-others : goal.returns-clause-others
returns-clause-others c = λ other apart.
    byte_on-same c.args.self.now _ other (λ low. bit_at_clear_other w8 c.args.self.now.has c.args.at (omega arith) other (omega (arith, low)) apart) refl
