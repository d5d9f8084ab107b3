-- A UDP datagram as a list of bytes: its fields by place, and the first fault of its header (RFC 768).
use Rattle.std.specs.Prelude.{ℕ, ◌-◌, ◌==◌, ◌&&◌, ◌||◌, nat_lt, nat_le, not, if◌then◌else◌, Bool, List, length, drop, take, Option, Some, None}
use Rattle.byteorder.specs.Endian.{big_number}
use Rattle.zk_base.specs.declared.network.Addr.{Addr}
use Rattle.zk_l4.specs.PseudoHeader.{has_right_checksum}
use Rattle.zk_l4.specs.declared.fault.L4Fault.{L4Fault}
use Rattle.zk_l4.specs.declared.fault.L4Fault.TheVariants.{Short, Length, Checksum}

unfoldable pub source_port : List ℕ → ℕ
source_port bytes = big_number 2 bytes

unfoldable pub destination_port : List ℕ → ℕ
destination_port bytes = big_number 2 (drop 2 bytes)

-- the bytes of header and payload
unfoldable pub length_field : List ℕ → ℕ
length_field bytes = big_number 2 (drop 4 bytes)

-- 0 where the sender computed none; that this counts over IPv6 too is this project's own rule (RFC 8200, section 8.1 has it discarded)
unfoldable pub checksum_field : List ℕ → ℕ
checksum_field bytes = big_number 2 (drop 6 bytes)

-- what was captured of the payload; bytes past the length field are not part of the datagram
abbrev pub payload : List ℕ → List ℕ
payload bytes = take (length_field bytes - 8) (drop 8 bytes)

-- the protocol's number in an IP header
abbrev pub protocol : ℕ
protocol = 17

-- the checksum is judged where that is asked for, the sender computed one and the whole datagram was captured
abbrev pub is_judged : List ℕ → Bool → Bool
is_judged bytes check = check && (not (checksum_field bytes == 0) && nat_le (length_field bytes) (length bytes))

-- the first fault of a datagram between two hosts: its captured bytes, its length by the IP header, and whether checksums are asked for
unfoldable pub udp_fault : Addr → Addr → List ℕ → ℕ → Bool → Option L4Fault
udp_fault src dst bytes full check =
    if nat_lt (length bytes) 8 then Some Short
    else if nat_lt (length_field bytes) 8 || nat_lt full (length_field bytes) then Some Length
    else if is_judged bytes check && not (has_right_checksum src dst protocol (take (length_field bytes) bytes)) then Some Checksum
    else None
