-- What the view of a packet stands on.
use Rattle.std.specs.Prelude.{ℕ, List}
use Rattle.std.specs.Borrow.{Bor}
use Rattle.zk_link_ip.specs.declared.ip4.Ip4.{Ip4}

-- the bytes that a packet begins, padding among them, in their place in memory
abbrev pub packet : Ip4 → Bor (List ℕ)
packet ip = ip.bytes
