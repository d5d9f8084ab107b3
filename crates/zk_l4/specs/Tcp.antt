-- A TCP segment as a list of bytes: its fields by place, and the first fault of its header (RFC 9293, section 3.1).
use Rattle.std.specs.Prelude.{ℕ, ◌*◌, ◌/◌, ◌==◌, ◌&&◌, ◌||◌, nat_lt, not, if◌then◌else◌, Bool, List, length, drop, slice_index, Option, Some, None}
use Rattle.byteorder.specs.Endian.{big_number}
use Rattle.zk_base.specs.declared.network.Addr.{Addr}
use Rattle.zk_l4.specs.PseudoHeader.{has_right_checksum}
use Rattle.zk_l4.specs.declared.fault.L4Fault.{L4Fault}
use Rattle.zk_l4.specs.declared.fault.L4Fault.TheVariants.{Short, Offset, Checksum}

unfoldable pub source_port : List ℕ → ℕ
source_port bytes = big_number 2 bytes

unfoldable pub destination_port : List ℕ → ℕ
destination_port bytes = big_number 2 (drop 2 bytes)

unfoldable pub sequence_number : List ℕ → ℕ
sequence_number bytes = big_number 4 (drop 4 bytes)

unfoldable pub acknowledgment_number : List ℕ → ℕ
acknowledgment_number bytes = big_number 4 (drop 8 bytes)

-- the header's length in words of 32 bits, options among them: the high half of its byte
unfoldable pub data_offset : List ℕ → ℕ
data_offset bytes = slice_index bytes 12 / 16

abbrev pub header_length : List ℕ → ℕ
header_length bytes = 4 * data_offset bytes

unfoldable pub control_bits : List ℕ → ℕ
control_bits bytes = slice_index bytes 13

abbrev pub payload : List ℕ → List ℕ
payload bytes = drop (header_length bytes) bytes

-- the protocol's number in an IP header
abbrev pub protocol : ℕ
protocol = 6

-- the checksum is judged where that is asked for and the whole segment was captured
abbrev pub is_judged : List ℕ → ℕ → Bool → Bool
is_judged bytes full check = check && (length bytes == full)

-- the first fault of a segment between two hosts: its captured bytes, its full length, and whether checksums are asked for
unfoldable pub tcp_fault : Addr → Addr → List ℕ → ℕ → Bool → Option L4Fault
tcp_fault src dst bytes full check =
    if nat_lt (length bytes) 20 then Some Short
    else if nat_lt (data_offset bytes) 5 || nat_lt (length bytes) (header_length bytes) then Some Offset
    else if is_judged bytes full check && not (has_right_checksum src dst protocol bytes) then Some Checksum
    else None
