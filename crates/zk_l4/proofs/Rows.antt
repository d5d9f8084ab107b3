-- Datagrams and segments with their first fault. What tcpdump and tshark say of their checksums is the same.
use Rattle.std.specs.Prelude.{◌≡◌, ℕ, List, [], ◌∷◌, true, false, None, Some, refl, take}
use Rattle.zk_base.specs.Checksum.{folded}
use Rattle.zk_base.specs.declared.network.Addr.{Addr}
use Rattle.zk_base.specs.declared.network.Addr.TheVariants.{V4, V6}
use Rattle.zk_l4.specs.declared.fault.L4Fault.TheVariants.{Short, Offset, Length, Checksum}
use Rattle.zk_l4.specs.declared.flags.TheConstants.{FIN, SYN, RST, PSH, ACK, URG, ECE, CWR}
use Rattle.zk_l4.specs.Tcp as tcp
use Rattle.zk_l4.specs.PseudoHeader.{has_right_checksum}
use Rattle.zk_l4.specs.Tcp.{data_offset, sequence_number, tcp_fault}
use Rattle.zk_l4.specs.Udp as udp
use Rattle.zk_l4.specs.Udp.{checksum_field, length_field, udp_fault}

-- 10.0.0.1 and 10.0.0.53
abbrev client : Addr
client = V4 0x0a000001

abbrev server : Addr
server = V4 0x0a000035

-- 2001:db8::1 and 2001:db8::35
abbrev client6 : Addr
client6 = V6 0x20010db8000000000000000000000001

abbrev server6 : Addr
server6 = V6 0x20010db8000000000000000000000035

-- ports 40000 and 53, no payload
abbrev empty_udp : ℕ → ℕ → List ℕ
empty_udp high low = 0x9c ∷ 0x40 ∷ 0x00 ∷ 0x35 ∷ 0x00 ∷ 0x08 ∷ high ∷ low ∷ []

udp_right : udp_fault client server (empty_udp 0x4f 0x33) 8 true ≡ None
unfolding udp_fault length_field checksum_field has_right_checksum folded
udp_right = refl

udp_wrong : udp_fault client server (empty_udp 0x00 0x01) 8 true ≡ Some Checksum
unfolding udp_fault length_field checksum_field has_right_checksum folded
udp_wrong = refl

udp_wrong_unasked : udp_fault client server (empty_udp 0x00 0x01) 8 false ≡ None
unfolding udp_fault length_field checksum_field has_right_checksum folded
udp_wrong_unasked = refl

udp_uncomputed : udp_fault client server (empty_udp 0x00 0x00) 8 true ≡ None
unfolding udp_fault length_field checksum_field has_right_checksum folded
udp_uncomputed = refl

udp_short : udp_fault client server (take 7 (empty_udp 0x4f 0x33)) 8 true ≡ Some Short
unfolding udp_fault length_field checksum_field has_right_checksum folded
udp_short = refl

-- the length by the IP header is below the length field
udp_long : udp_fault client server (empty_udp 0x4f 0x33) 7 true ≡ Some Length
unfolding udp_fault length_field checksum_field has_right_checksum folded
udp_long = refl

-- a payload of 3 bytes over IPv6
abbrev udp6 : List ℕ
udp6 = 0x9c ∷ 0x40 ∷ 0x00 ∷ 0x35 ∷ 0x00 ∷ 0x0b ∷ 0x43 ∷ 0x58 ∷ 0x61 ∷ 0x62 ∷ 0x63 ∷ []

udp6_right : udp_fault client6 server6 udp6 11 true ≡ None
unfolding udp_fault length_field checksum_field has_right_checksum folded
udp6_right = refl

udp6_payload : udp.payload udp6 ≡ 0x61 ∷ 0x62 ∷ 0x63 ∷ []
unfolding length_field
udp6_payload = refl

-- three bytes stand behind the datagram
abbrev udp_padded : List ℕ
udp_padded = 0x9c ∷ 0x40 ∷ 0x00 ∷ 0x35 ∷ 0x00 ∷ 0x0b ∷ 0x8a ∷ 0xca ∷ 0x61 ∷ 0x62 ∷ 0x63 ∷ 0xaa ∷ 0xbb ∷ 0xcc ∷ []

udp_padded_right : udp_fault client server udp_padded 14 true ≡ None
unfolding udp_fault length_field checksum_field has_right_checksum folded
udp_padded_right = refl

udp_padded_payload : udp.payload udp_padded ≡ 0x61 ∷ 0x62 ∷ 0x63 ∷ []
unfolding length_field
udp_padded_payload = refl

-- ports 49320 and 80, a payload of 3 bytes
abbrev segment : ℕ → List ℕ
segment offset = 0xc0 ∷ 0xa8 ∷ 0x00 ∷ 0x50 ∷ 0x01 ∷ 0x02 ∷ 0x03 ∷ 0x04 ∷ 0x0a ∷ 0x0b ∷ 0x0c ∷ 0x0d ∷ offset ∷ 0x18 ∷ 0x20 ∷ 0x00 ∷ 0x05 ∷ 0x38 ∷ 0x00 ∷ 0x00 ∷ 0x47 ∷ 0x45 ∷ 0x54 ∷ []

tcp_right : tcp_fault client server (segment 0x50) 23 true ≡ None
unfolding tcp_fault data_offset has_right_checksum folded
tcp_right = refl

tcp_between_others : tcp_fault client client (segment 0x50) 23 true ≡ Some Checksum
unfolding tcp_fault data_offset has_right_checksum folded
tcp_between_others = refl

-- one more byte by the IP header: what is missing leaves the checksum unjudged
tcp_cut : tcp_fault client client (segment 0x50) 24 true ≡ None
unfolding tcp_fault data_offset has_right_checksum folded
tcp_cut = refl

tcp_low_offset : tcp_fault client server (segment 0x40) 23 true ≡ Some Offset
unfolding tcp_fault data_offset has_right_checksum folded
tcp_low_offset = refl

tcp_high_offset : tcp_fault client server (segment 0x60) 23 true ≡ Some Offset
unfolding tcp_fault data_offset has_right_checksum folded
tcp_high_offset = refl

tcp_short : tcp_fault client server (take 19 (segment 0x40)) 23 true ≡ Some Short
unfolding tcp_fault data_offset has_right_checksum folded
tcp_short = refl

tcp_sequence_number : tcp.sequence_number (segment 0x50) ≡ 0x01020304
unfolding sequence_number
tcp_sequence_number = refl

tcp_payload : tcp.payload (segment 0x50) ≡ 0x47 ∷ 0x45 ∷ 0x54 ∷ []
unfolding data_offset
tcp_payload = refl

-- an option of 4 bytes, a payload of 5 bytes, over IPv6
abbrev segment6 : List ℕ
segment6 = 0xc0 ∷ 0xa8 ∷ 0x00 ∷ 0x50 ∷ 0xff ∷ 0xff ∷ 0xff ∷ 0xfe ∷ 0x00 ∷ 0x00 ∷ 0x00 ∷ 0x00 ∷ 0x60 ∷ 0x02 ∷ 0x20 ∷ 0x00 ∷ 0x17 ∷ 0xb0 ∷ 0x00 ∷ 0x00 ∷ 0x02 ∷ 0x04 ∷ 0x05 ∷ 0xb4 ∷ 0x68 ∷ 0x65 ∷ 0x6c ∷ 0x6c ∷ 0x6f ∷ []

tcp6_right : tcp_fault client6 server6 segment6 29 true ≡ None
unfolding tcp_fault data_offset has_right_checksum folded
tcp6_right = refl

tcp6_payload : tcp.payload segment6 ≡ 0x68 ∷ 0x65 ∷ 0x6c ∷ 0x6c ∷ 0x6f ∷ []
unfolding data_offset
tcp6_payload = refl

-- the control bits as RFC 9293, section 3.1 draws them, from the right
control_bits_have_their_places :
    FIN ∷ SYN ∷ RST ∷ PSH ∷ ACK ∷ URG ∷ ECE ∷ CWR ∷ [] ≡ 1 ∷ 2 ∷ 4 ∷ 8 ∷ 16 ∷ 32 ∷ 64 ∷ 128 ∷ []
control_bits_have_their_places = refl
