-- A TCP or UDP packet, as far as connections look at it (RFC 9293, section 3.1; RFC 768).
use Rattle.std.specs.Prelude.{ℕ, Bool, true, false, not, ◌==◌, ◌&&◌, ◌||◌, nat_lt, bit_and, if◌then◌else◌}
use Rattle.zk_base.specs.declared.network.Addr.{Addr}
use Rattle.zk_base.specs.declared.network.Addr.TheVariants.{V4, V6}
use Rattle.zk_base.specs.declared.network.Proto.{Proto}
use Rattle.zk_base.specs.declared.network.Proto.TheVariants.{Tcp, Udp}
use Rattle.zk_l4.specs.declared.flags.TheConstants.{FIN, SYN, RST, ACK}
use Rattle.zk_conn.specs.declared.key.Endpoint.{Endpoint}
use Rattle.zk_conn.specs.declared.key.Key.{Key}
use Rattle.zk_conn.specs.declared.view.L4View.{L4View}

-- where a packet comes from
abbrev pub sender : L4View → Endpoint
sender p = record { addr = p.src; port = p.sport }

-- where it goes
abbrev pub receiver : L4View → Endpoint
receiver p = record { addr = p.dst; port = p.dport }

abbrev pub same_address : Addr → Addr → Bool
same_address (V4 a) (V4 b) = a == b
same_address (V6 a) (V6 b) = a == b
same_address (V4 a) (V6 b) = false
same_address (V6 a) (V4 b) = false

abbrev pub same_endpoint : Endpoint → Endpoint → Bool
same_endpoint a b = same_address a.addr b.addr && (a.port == b.port)

-- IPv4 stands before IPv6
abbrev pub address_is_before : Addr → Addr → Bool
address_is_before (V4 a) (V4 b) = nat_lt a b
address_is_before (V6 a) (V6 b) = nat_lt a b
address_is_before (V4 a) (V6 b) = true
address_is_before (V6 a) (V4 b) = false

abbrev pub is_before : Endpoint → Endpoint → Bool
is_before a b = address_is_before a.addr b.addr || (same_address a.addr b.addr && nat_lt a.port b.port)

-- the protocol and the unordered pair of ends: that which stands before the other is named first
abbrev pub key_with : Proto → Endpoint → Endpoint → Key
key_with proto low high = record {
  low_port = low.port;
  high_port = high.port;
  proto = proto;
  low_addr = low.addr;
  high_addr = high.addr;
}

abbrev pub key_of : L4View → Key
key_of p =
    key_with p.proto
    (if is_before (receiver p) (sender p) then receiver p else sender p)
    (if is_before (receiver p) (sender p) then sender p else receiver p)

abbrev pub low_end : Key → Endpoint
low_end key = record { addr = key.low_addr; port = key.low_port }

abbrev pub high_end : Key → Endpoint
high_end key = record { addr = key.high_addr; port = key.high_port }

abbrev pub is_tcp : Proto → Bool
is_tcp Tcp = true
is_tcp Udp = false

abbrev pub same_proto : Proto → Proto → Bool
same_proto Tcp Tcp = true
same_proto Udp Udp = true
same_proto Tcp Udp = false
same_proto Udp Tcp = false

abbrev pub same_key : Key → Key → Bool
same_key a b = same_proto a.proto b.proto && (same_endpoint (low_end a) (low_end b) && same_endpoint (high_end a) (high_end b))

-- the control bits: a UDP packet has none
abbrev pub control : L4View → ℕ
control p = if is_tcp p.proto then p.flags else 0

abbrev pub has : L4View → ℕ → Bool
has p bit = not (bit_and (control p) bit == 0)

abbrev pub has_syn : L4View → Bool
has_syn p = has p SYN

abbrev pub has_ack : L4View → Bool
has_ack p = has p ACK

abbrev pub has_fin : L4View → Bool
has_fin p = has p FIN

abbrev pub has_rst : L4View → Bool
has_rst p = has p RST

-- a packet that opens and closes no end
abbrev pub is_plain : L4View → Bool
is_plain p = not (has_syn p || has_fin p || has_rst p)
