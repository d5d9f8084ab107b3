-- An IPv4 packet (RFC 791, section 3.1), by the places of its header's fields.
use Rattle.std.specs.Prelude.{ℕ, ◌-◌, ◌*◌, ◌/◌, ◌%◌, ◌^◌, Bool, ◌==◌, ◌&&◌, ◌||◌, not, nat_lt, min, if◌then◌else◌, List, length, take, drop, sum, slice_index, Option, Some, None}
use Rattle.byteorder.specs.Endian.{big_number}
use Rattle.zk_base.specs.Checksum.{words, is_right_sum}
use Rattle.zk_base.specs.declared.network.TheConstants.{IP4_TOTAL_LENGTH_MAX}
use Rattle.zk_base.specs.declared.network.Addr.{Addr}
use Rattle.zk_base.specs.declared.network.Addr.TheVariants.{V4}
use Rattle.zk_link_ip.specs.declared.ip4.IpFault.{IpFault}
use Rattle.zk_link_ip.specs.declared.ip4.IpFault.TheVariants.{Short, NotFour, Ihl, Total, Checksum}

abbrev pub version : List ℕ → ℕ
version bytes = slice_index bytes 0 / 16

-- the internet header length, in words of 32 bits
abbrev pub ihl : List ℕ → ℕ
ihl bytes = slice_index bytes 0 % 16

abbrev pub header_len : List ℕ → ℕ
header_len bytes = 4 * ihl bytes

abbrev pub total_length : List ℕ → ℕ
total_length bytes = big_number 2 (drop 2 bytes)

abbrev pub identification : List ℕ → ℕ
identification bytes = big_number 2 (drop 4 bytes)

-- three bits of flags, the last of them MF, and behind them the offset
abbrev pub flags_and_offset : List ℕ → ℕ
flags_and_offset bytes = big_number 2 (drop 6 bytes)

-- MF: more fragments follow
abbrev pub more : List ℕ → Bool
more bytes = flags_and_offset bytes / 2 ^ 13 % 2 == 1

-- the fragment's offset, in units of 8 bytes
abbrev pub offset : List ℕ → ℕ
offset bytes = flags_and_offset bytes % 2 ^ 13

abbrev pub protocol : List ℕ → ℕ
protocol bytes = slice_index bytes 9

abbrev pub source : List ℕ → Addr
source bytes = V4 (big_number 4 (drop 12 bytes))

abbrev pub destination : List ℕ → Addr
destination bytes = V4 (big_number 4 (drop 16 bytes))

-- Where the packet ends: at its total length. Where that is 0, which is no form of RFC 791, it ends with the bytes, after
-- the greatest total length at the latest: that is this project's own rule.
abbrev pub packet_len : List ℕ → ℕ
packet_len bytes = if total_length bytes == 0 then min (length bytes) IP4_TOTAL_LENGTH_MAX else total_length bytes

-- the length of the payload that the packet was sent with
abbrev pub full_len : List ℕ → ℕ
full_len bytes = packet_len bytes - header_len bytes

-- the packet passes the bytes
abbrev pub was_cut : List ℕ → Bool
was_cut bytes = nat_lt (length bytes) (total_length bytes)

-- what is there of the payload; what follows the packet is padding
abbrev pub payload : List ℕ → List ℕ
payload bytes = take (full_len bytes) (drop (header_len bytes) bytes)

-- the header's one's complement sum is all ones
abbrev pub checksum_is_right : List ℕ → Bool
checksum_is_right bytes = is_right_sum (sum (words (take (header_len bytes) bytes)))

-- the first fault of the packet that begins the bytes, where checksums are asked for or not
abbrev pub ip4_fault : List ℕ → Bool → Option IpFault
ip4_fault bytes check =
    if nat_lt (length bytes) 20 then Some Short
    else if not (version bytes == 4) then Some NotFour
    else if nat_lt (ihl bytes) 5 || nat_lt (length bytes) (header_len bytes) then Some Ihl
    else if not (total_length bytes == 0) && nat_lt (total_length bytes) (header_len bytes) then Some Total
    else if check && not (checksum_is_right bytes) then Some Checksum
    else None
