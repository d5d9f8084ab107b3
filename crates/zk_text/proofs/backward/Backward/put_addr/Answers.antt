use Rattle.std.proofs.Common.{refl}
use Rattle.std.specs.Net.Addr.{IsIpv4OfBits, IsIpv6OfBits}
use Rattle.zk_text.specs.Address.{addr_text}
use Rattle.zk_text.proofs.backward.Backward.put_addr.Goals as goal

pub returns-in-V4-clause-written : goal.returns-in-V4-clause-written
unfolding addr_text IsIpv4OfBits
returns-in-V4-clause-written c = rw (c.in-V4.is, c.put_octets.ensures.written, c.octets.ensures, c.from_bits.ensures) refl

pub returns-in-V6-clause-written : goal.returns-in-V6-clause-written
unfolding addr_text IsIpv6OfBits
returns-in-V6-clause-written c = rw (c.in-V6.is, c.put_segments.ensures.written, c.segments.ensures, c.from_bits-in-V6.ensures) refl
