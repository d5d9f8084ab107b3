-- Headers that show what the definitions of `Ip4` say.
use Rattle.std.proofs.Common.{◌≡◌, ℕ, List, [], ◌∷◌, ◌++◌, true, false, Some, None, refl}
use Rattle.zk_base.specs.Checksum.{folded}
use Rattle.zk_base.specs.declared.network.Addr.TheVariants.{V4}
use Rattle.zk_link_ip.specs.Ip4.{ip4_fault, identification, more, offset, protocol, source, destination, full_len, was_cut, payload}
use Rattle.zk_link_ip.specs.declared.ip4.IpFault.TheVariants.{Short, NotFour, Ihl, Total, Checksum}

-- a header of UDP with its first byte, total length and checksum left open
header : ℕ → ℕ → ℕ → List ℕ
header first total checksum = first ∷ 0x00 ∷ 0x00 ∷ total ∷ 0x00 ∷ 0x00 ∷ 0x40 ∷ 0x00 ∷ 0x40 ∷ 0x11 ∷ 0xb8 ∷ checksum ∷ 0xc0 ∷ 0xa8 ∷ 0x00 ∷ 0x01 ∷ 0xc0 ∷ 0xa8 ∷ 0x00 ∷ 0xc7 ∷ []

right : ip4_fault (header 0x45 0x73 0x61) true ≡ None
unfolding header folded
right = refl

right-protocol : protocol (header 0x45 0x73 0x61) ≡ 17
unfolding header
right-protocol = refl

right-source : source (header 0x45 0x73 0x61) ≡ V4 0xc0a80001
unfolding header
right-source = refl

right-destination : destination (header 0x45 0x73 0x61) ≡ V4 0xc0a800c7
unfolding header
right-destination = refl

right-full_len : full_len (header 0x45 0x73 0x61) ≡ 95
unfolding header
right-full_len = refl

right-payload : payload (header 0x45 0x73 0x61) ≡ []
unfolding header
right-payload = refl

right-was_cut : was_cut (header 0x45 0x73 0x61) ≡ true
unfolding header
right-was_cut = refl

wrong_checksum : ip4_fault (header 0x45 0x73 0x62) true ≡ Some Checksum
unfolding header folded
wrong_checksum = refl

wrong_checksum-not_asked : ip4_fault (header 0x45 0x73 0x62) false ≡ None
unfolding header
wrong_checksum-not_asked = refl

version_six : ip4_fault (header 0x65 0x73 0x61) true ≡ Some NotFour
unfolding header
version_six = refl

header_of_four_words : ip4_fault (header 0x44 0x73 0x61) true ≡ Some Ihl
unfolding header
header_of_four_words = refl

header_past_the_bytes : ip4_fault (header 0x46 0x73 0x61) true ≡ Some Ihl
unfolding header
header_past_the_bytes = refl

total_within_the_header : ip4_fault (header 0x45 0x13 0x61) true ≡ Some Total
unfolding header
total_within_the_header = refl

too_short : ip4_fault (0x45 ∷ []) false ≡ Some Short
too_short = refl

-- no total length: the packet ends with the bytes
no_total_length : payload (header 0x45 0x00 0x61 ++ 1 ∷ 2 ∷ 3 ∷ []) ≡ 1 ∷ 2 ∷ 3 ∷ []
unfolding header
no_total_length = refl

no_total_length-was_cut : was_cut (header 0x45 0x00 0x61) ≡ false
unfolding header
no_total_length-was_cut = refl

-- a total length of 22: the third byte is padding
padding : payload (header 0x45 0x16 0x61 ++ 1 ∷ 2 ∷ 3 ∷ []) ≡ 1 ∷ 2 ∷ []
unfolding header
padding = refl

-- a header of six words, so the payload begins after 24 bytes
options : payload (header 0x46 0x1a 0x61 ++ 0x94 ∷ 0x04 ∷ 0x00 ∷ 0x00 ∷ 1 ∷ 2 ∷ []) ≡ 1 ∷ 2 ∷ []
unfolding header
options = refl

-- a fragment with MF, 185 units of 8 bytes into its datagram
fragment : List ℕ
fragment = 0x45 ∷ 0x00 ∷ 0x05 ∷ 0xdc ∷ 0x30 ∷ 0x39 ∷ 0x20 ∷ 0xb9 ∷ []

fragment-more : more fragment ≡ true
unfolding fragment
fragment-more = refl

fragment-offset : offset fragment ≡ 185
unfolding fragment
fragment-offset = refl

fragment-identification : identification fragment ≡ 12345
unfolding fragment
fragment-identification = refl
