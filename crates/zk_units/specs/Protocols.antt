-- The protocol of a connection: the responder's port tells it.
use Rattle.std.specs.Prelude.{ℕ, ◌==◌, if◌then◌else◌, List, [], ◌∷◌, Option, Some, None}
use Rattle.std.specs.List.{list_any}
use Rattle.zk_base.specs.declared.network.Proto.{Proto}
use Rattle.zk_base.specs.declared.network.Proto.TheVariants.{Tcp, Udp}
use Rattle.zk_units.specs.declared.protocol.Protocol.{Protocol}
use Rattle.zk_units.specs.declared.protocol.Protocol.TheVariants.{Http, Dns}

abbrev pub dns_port : ℕ
dns_port = 53

abbrev pub http_ports : List ℕ
http_ports = 80 ∷ 81 ∷ 631 ∷ 1080 ∷ 3128 ∷ 8000 ∷ 8080 ∷ 8888 ∷ []

abbrev pub over_tcp : ℕ → Option Protocol
over_tcp port = if port == dns_port then Some Dns else if list_any (λ known. known == port) http_ports then Some Http else None

abbrev pub over_udp : ℕ → Option Protocol
over_udp port = if port == dns_port then Some Dns else None

-- what a connection to this port of its responder speaks
unfoldable pub protocol_at : Proto → ℕ → Option Protocol
protocol_at Tcp port = over_tcp port
protocol_at Udp port = over_udp port
