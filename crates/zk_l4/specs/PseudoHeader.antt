-- The pseudo header that the checksum of a transport protocol covers before the datagram itself.
use Rattle.std.specs.Prelude.{ℕ, List, [], ◌∷◌, ◌++◌, Bool, length, sum, ⊤}
use Rattle.std.specs.Int.{to_be_bytes, w16, w32, w128}
use Rattle.zk_base.specs.Checksum.{words, is_right_sum}
use Rattle.zk_base.specs.declared.network.Addr.{Addr}
use Rattle.zk_base.specs.declared.network.Addr.TheVariants.{V4, V6}

-- both addresses are of one version of IP
abbrev pub IsOneFamily : Addr → Addr → Type 0
IsOneFamily (V4 src) (V4 dst) = ⊤
IsOneFamily (V6 src) (V6 dst) = ⊤
IsOneFamily (V4 src) (V6 dst) = ⊥
IsOneFamily (V6 src) (V4 dst) = ⊥

-- an address in network order
abbrev pub address_bytes : Addr → List ℕ
address_bytes (V4 address) = to_be_bytes w32 address
address_bytes (V6 address) = to_be_bytes w128 address

-- what stands behind the addresses, by the family of the first
abbrev pub protocol_and_length : Addr → ℕ → ℕ → List ℕ
-- zero, protocol, length (RFC 9293, section 3.1, RFC 768)
protocol_and_length (V4 src) protocol len = 0 ∷ protocol ∷ to_be_bytes w16 len
-- length in 32 bits, three zero bytes, next header (RFC 8200, section 8.1)
protocol_and_length (V6 src) protocol len = to_be_bytes w32 len ++ 0 ∷ 0 ∷ 0 ∷ protocol ∷ []

abbrev pub pseudo_header : Addr → Addr → ℕ → ℕ → List ℕ
pseudo_header src dst protocol len = address_bytes src ++ (address_bytes dst ++ protocol_and_length src protocol len)

-- the one's complement sum over the pseudo header and the datagram, its checksum field among them, is all ones (RFC 1071, section 1)
unfoldable pub has_right_checksum : Addr → Addr → ℕ → List ℕ → Bool
has_right_checksum src dst protocol datagram =
    is_right_sum (sum (words (pseudo_header src dst protocol (length datagram) ++ datagram)))
