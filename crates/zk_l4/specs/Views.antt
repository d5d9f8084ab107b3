-- What the views stand on.
use Rattle.std.specs.Prelude.{ℕ, List}
use Rattle.std.specs.Borrow.{Bor}
use Rattle.zk_l4.specs.declared.tcp.Tcp.{Tcp}
use Rattle.zk_l4.specs.declared.udp.Udp.{Udp}

-- the captured bytes of a segment, in their place in memory
abbrev pub segment : Tcp → Bor (List ℕ)
segment tcp = tcp.bytes

-- the length of the whole segment by the IP header
abbrev pub full_length : Tcp → ℕ
full_length tcp = tcp.full

-- the captured bytes of a datagram, in their place in memory
abbrev pub datagram : Udp → Bor (List ℕ)
datagram udp = udp.bytes
