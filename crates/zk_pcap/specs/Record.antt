-- A record (draft-ietf-opsawg-pcap, section 5): in its header of 16 bytes stand the second, the fraction
-- of it, the captured and the original length. The captured bytes follow.
use Rattle.std.specs.Prelude.{◌≡◌, ℕ, ◌<◌, ◌≤◌, ◌^◌, ◌+◌, ◌*◌, ◌/◌, Bool, ◌&&◌, nat_le, nat_lt, if◌then◌else◌, List, length, take, drop, pos, Option, Some, None}
use Rattle.zk_base.specs.declared.time.Moment.{Moment}
use Rattle.zk_pcap.specs.declared.headers.Header.{Header}
use Rattle.zk_pcap.specs.declared.records.Packet.{Packet}
use Rattle.zk_pcap.specs.Header.{number_of}

-- the microseconds since the epoch of a second and its fraction, which may be a whole second or more
abbrev pub moment_of : Bool → ℕ → ℕ → Moment
moment_of nano seconds fraction = record {
  0 = pos (seconds * 1000000 + (if nano then fraction / 1000 else fraction));
}

-- The packet of the record that begins at a place, if it is whole. At most 262,144 bytes are captured.
abbrev pub record_by : (ℕ → List ℕ → ℕ) → Bool → List ℕ → ℕ → Option Packet
record_by number nano bytes place =
    let captured = number 4 (drop (place + 8) bytes) in
    if nat_le (place + 16 + captured) (length bytes) && nat_le captured 262144
    then Some (record {
      moment = moment_of nano (number 4 (drop place bytes)) (number 4 (drop (place + 4) bytes));
      orig_len = number 4 (drop (place + 12) bytes);
      bytes = take captured (drop (place + 16) bytes);
      place = place;
    })
    else None

abbrev pub record_at : Header → List ℕ → ℕ → Option Packet
record_at header = record_by (number_of header.big) header.nano

-- the record that begins at a place says that more than 262,144 bytes were captured
abbrev pub is_too_long_by : (ℕ → List ℕ → ℕ) → List ℕ → ℕ → Bool
is_too_long_by number bytes place = nat_le (place + 12) (length bytes) && nat_lt 262144 (number 4 (drop (place + 8) bytes))

abbrev pub is_too_long : Header → List ℕ → ℕ → Bool
is_too_long header = is_too_long_by (number_of header.big)

-- the place behind a packet's record
abbrev pub end_of : Packet → ℕ
end_of packet = packet.place + 16 + length packet.bytes

-- what holds of each packet of a file
pub record IsWithinLimits (packet : Packet) : Type 0 where
  pub moment : (micros : ℕ) × (micros < 2 ^ 62) × (packet.moment ≡ record { 0 = pos micros })
  pub captured : length packet.bytes ≤ 262144
  pub place : packet.place < 2 ^ 40
