-- The text of a port: its number, a slash and its protocol.
use Rattle.std.specs.Prelude.{ℕ, List, ◌++◌, codes, decimal}
use Rattle.zk_base.specs.declared.network.Proto.{Proto}
use Rattle.zk_base.specs.declared.network.Proto.TheVariants.{Tcp, Udp}

abbrev pub proto_name : Proto → List ℕ
proto_name Tcp = codes "tcp"
proto_name Udp = codes "udp"

abbrev pub port_text : ℕ → Proto → List ℕ
port_text port proto = decimal port ++ codes "/" ++ proto_name proto
