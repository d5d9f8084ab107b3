-- A generated capture: conversations of three kinds in turn, one each second (draft-ietf-opsawg-pcap, section 4).
use Rattle.std.specs.Prelude.{◌≡◌, ℕ, zero, suc, ◌+◌, ◌%◌, true, List, [], ◌∷◌, ◌++◌, length, sum}
use Rattle.zk_base.specs.Checksum.{words, is_right_sum}
use Rattle.zk_gen.specs.declared.packet.Path.{Path}
use Rattle.zk_gen.specs.declared.packet.Talk.{Talk}
use Rattle.zk_gen.specs.declared.packet.Transport.{Transport}
use Rattle.zk_gen.specs.Frames.{ip_header, ip_checksum, pseudo_header, header_len, protocol_of, transport_header, transport_checksum}
use Rattle.zk_gen.specs.Conversations.{looked_up, whole, cut, records}

-- 10.1.0.0 and the low 16 bits of a conversation's number
abbrev pub client_of : ℕ → ℕ
client_of k = 0x0a010000 + k % 65536

-- the hosts of the k-th conversation
abbrev pub talk_of : ℕ → ℕ → ℕ → ℕ → Talk
talk_of k client_port server server_port =
    record { seconds = 1700000000 + k; client = client_of k; client_port = client_port; server = server; server_port = server_port }

-- the server is 10.0.0.53
abbrev pub lookup_of : ℕ → Talk
lookup_of k = talk_of k 40000 0x0a000035 53

-- the server is 10.0.0.80
abbrev pub request_of : ℕ → Talk
request_of k = talk_of k 40001 0x0a000050 80

-- the records of the k-th conversation, of one of three kinds
unfoldable pub conversation_of : ℕ → ℕ → List ℕ
conversation_of zero k = records (lookup_of k) looked_up
conversation_of (suc zero) k = records (request_of k) whole
conversation_of (suc (suc kind)) k = records (request_of k) cut

-- n conversations from the k-th on
unfoldable pub conversations : ℕ → ℕ → ℕ → List ℕ
conversations start k zero = []
conversations start k (suc n) = conversation_of ((start + k) % 3) k ++ conversations start (k + 1) n

-- microseconds, little-endian, version 2.4, a snaplen of 262,144, Ethernet
abbrev pub capture_header : List ℕ
capture_header =
    0xd4 ∷ 0xc3 ∷ 0xb2 ∷ 0xa1 ∷ 2 ∷ 0 ∷ 4 ∷ 0 ∷ 0 ∷ 0 ∷ 0 ∷ 0 ∷ 0 ∷ 0 ∷ 0 ∷ 0 ∷ 0 ∷ 0 ∷ 4 ∷ 0 ∷ 1 ∷ 0 ∷ 0 ∷ 0 ∷ []

abbrev pub capture_of : ℕ → ℕ → List ℕ
capture_of start count = capture_header ++ conversations start 0 count

-- the checksum of a transport protocol is right, over pseudo header, header and payload
abbrev pub HasRightTransport : Transport → Path → List ℕ → Type 0
HasRightTransport transport path payload =
    is_right_sum (sum (words (pseudo_header (header_len transport + length payload) (protocol_of transport) path
    ++ (transport_header (transport_checksum transport path payload) transport path (length payload) ++ payload)))) ≡ true

-- The checksums of a packet are right, whatever length its IP header names.
pub record HasRightChecksums (transport : Transport) (path : Path) (payload : List ℕ) : Type 0 where
  pub ip : (len : ℕ) → is_right_sum (sum (words (ip_header (ip_checksum len (protocol_of transport) path) len (protocol_of transport) path))) ≡ true
  pub transported : HasRightTransport transport path payload
