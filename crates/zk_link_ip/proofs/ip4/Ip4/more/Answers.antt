use Rattle.std.proofs.Common.{arith}
use Rattle.std.proofs.lemmas.Nat.Bits.{and_pow}
use Rattle.zk_link_ip.proofs.ip4.Ip4.more.Goals as goal

pub returns : goal.returns
returns c = grind (arith, and_pow c.flags_and_offset.result 13)
