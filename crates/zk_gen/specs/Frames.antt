-- A packet as the bytes of its record in a capture, with right checksums.
use Rattle.std.specs.Prelude.{ℕ, ◌+◌, ◌-◌, ◌==◌, if◌then◌else◌, List, [], ◌∷◌, ◌++◌, length, sum}
use Rattle.std.specs.Int.{to_be_bytes, to_le_bytes, w16, w32}
use Rattle.zk_base.specs.Checksum.{words, folded}
use Rattle.zk_base.specs.declared.network.Side.{Side}
use Rattle.zk_base.specs.declared.network.Side.TheVariants.{Orig, Resp}
use Rattle.zk_gen.specs.declared.packet.Path.{Path}
use Rattle.zk_gen.specs.declared.packet.Talk.{Talk}
use Rattle.zk_gen.specs.declared.packet.Transport.{Transport}
use Rattle.zk_gen.specs.declared.packet.Transport.TheVariants.{Datagram, Segment}

-- who sends a packet to whom
abbrev pub path_of : Talk → Side → Path
path_of talk Orig = record { source = talk.client; source_port = talk.client_port; target = talk.server; target_port = talk.server_port }
path_of talk Resp = record { source = talk.server; source_port = talk.server_port; target = talk.client; target_port = talk.client_port }

-- ---- checksums

-- the checksum that words of this sum have, where their checksum field is 0: the complement of their one's complement
-- sum (RFC 1071, section 1)
abbrev pub checksum_of : ℕ → ℕ
checksum_of total = 0xffff - folded total

-- that of UDP, where 0 would say that there is none (RFC 768)
abbrev pub udp_checksum_of : ℕ → ℕ
udp_checksum_of total = if checksum_of total == 0 then 0xffff else checksum_of total

-- ---- headers

-- an Ethernet header of an IPv4 packet, whose addresses are 0 (IEEE 802.3, section 3)
abbrev pub ethernet_header : List ℕ
ethernet_header = 0 ∷ 0 ∷ 0 ∷ 0 ∷ 0 ∷ 0 ∷ 0 ∷ 0 ∷ 0 ∷ 0 ∷ 0 ∷ 0 ∷ 0x08 ∷ 0x00 ∷ []

-- an IPv4 header whose identification, fragment fields and time to live are 0 (RFC 791, section 3.1)
unfoldable pub ip_header : ℕ → ℕ → ℕ → Path → List ℕ
ip_header checksum len protocol path =
    0x45 ∷ 0 ∷ (to_be_bytes w16 len ++ 0 ∷ 0 ∷ 0 ∷ 0 ∷ 0 ∷ protocol ∷ (to_be_bytes w16 checksum ++ (to_be_bytes w32 path.source ++ to_be_bytes w32 path.target)))

-- what a checksum of UDP or TCP covers before the datagram itself (RFC 768, RFC 9293, section 3.1)
unfoldable pub pseudo_header : ℕ → ℕ → Path → List ℕ
pseudo_header len protocol path = to_be_bytes w32 path.source ++ (to_be_bytes w32 path.target ++ 0 ∷ protocol ∷ to_be_bytes w16 len)

-- RFC 768
unfoldable pub udp_header : ℕ → ℕ → Path → List ℕ
udp_header checksum len path =
    to_be_bytes w16 path.source_port ++ (to_be_bytes w16 path.target_port ++ (to_be_bytes w16 len ++ to_be_bytes w16 checksum))

-- a header of five words, whose window and urgent pointer are 0 (RFC 9293, section 3.1)
unfoldable pub tcp_header : ℕ → ℕ → ℕ → ℕ → Path → List ℕ
tcp_header checksum flags number awaited path =
    to_be_bytes w16 path.source_port ++ (to_be_bytes w16 path.target_port ++ (to_be_bytes w32 number ++ (to_be_bytes w32 awaited
    ++ 0x50 ∷ flags ∷ 0 ∷ 0 ∷ (to_be_bytes w16 checksum ++ 0 ∷ 0 ∷ []))))

-- the protocol's number in an IP header
abbrev pub protocol_of : Transport → ℕ
protocol_of Datagram = 17
protocol_of (Segment flags number awaited) = 6

-- the header of a transport protocol with this checksum, for a payload of so many bytes
abbrev pub transport_header : ℕ → Transport → Path → ℕ → List ℕ
transport_header checksum Datagram path len = udp_header checksum (8 + len) path
transport_header checksum (Segment flags number awaited) path len = tcp_header checksum flags number awaited path

abbrev pub header_len : Transport → ℕ
header_len Datagram = 8
header_len (Segment flags number awaited) = 20

-- ---- whole packets

-- the sum that a transport protocol's checksum is taken of
abbrev pub transport_sum : ℕ → Transport → Path → List ℕ → ℕ
transport_sum checksum transport path payload =
    sum (words (pseudo_header (header_len transport + length payload) (protocol_of transport) path))
    + (sum (words (transport_header checksum transport path (length payload))) + sum (words payload))

abbrev pub transport_checksum : Transport → Path → List ℕ → ℕ
transport_checksum Datagram path payload = udp_checksum_of (transport_sum 0 Datagram path payload)
transport_checksum (Segment flags number awaited) path payload = checksum_of (transport_sum 0 (Segment flags number awaited) path payload)

abbrev pub ip_checksum : ℕ → ℕ → Path → ℕ
ip_checksum len protocol path = checksum_of (sum (words (ip_header 0 len protocol path)))

-- the header of a record: seconds, microseconds, captured and original length (draft-ietf-opsawg-pcap, section 5)
unfoldable pub record_header : ℕ → ℕ → ℕ → List ℕ
record_header seconds micros len = to_le_bytes w32 seconds ++ (to_le_bytes w32 micros ++ (to_le_bytes w32 len ++ to_le_bytes w32 len))

-- a record of an Ethernet frame with an IPv4 packet
abbrev pub framed : ℕ → ℕ → ℕ → Path → List ℕ → List ℕ → List ℕ
framed seconds micros protocol path header payload =
    let len = 20 + (length header + length payload) in
    record_header seconds micros (14 + len) ++ (ethernet_header ++ (ip_header (ip_checksum len protocol path) len protocol path ++ (header ++ payload)))

-- a packet that a side of a conversation sends, so many microseconds after it begins, as a record
unfoldable pub record_of : Talk → ℕ → Side → Transport → List ℕ → List ℕ
record_of talk micros side transport payload =
    let path = path_of talk side in
    framed talk.seconds micros (protocol_of transport) path (transport_header (transport_checksum transport path payload) transport path (length payload)) payload
