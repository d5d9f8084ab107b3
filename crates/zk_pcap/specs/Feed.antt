-- What captures are, by the records that are read while the bytes of a file come.
use Rattle.std.specs.Prelude.{◌≡◌, ℕ, ◌≤◌, ◌^◌, true, List, ◌++◌, length, Some, None, Result, Ok, Err}
use Rattle.zk_pcap.specs.declared.captures.Capture.{Capture}
use Rattle.zk_pcap.specs.declared.faults.CaptureFault.{CaptureFault}
use Rattle.zk_pcap.specs.declared.faults.CaptureFault.TheVariants.{Short, Magic, Version, Link, NoMemory}
use Rattle.zk_pcap.specs.declared.headers.Header.{Header}
use Rattle.zk_pcap.specs.declared.records.Packet.{Packet}
use Rattle.zk_pcap.specs.Capture.{StandBetween, ending_at, capture_of}
use Rattle.zk_pcap.specs.Header.{header_of}
use Rattle.zk_pcap.specs.Record.{record_at, is_too_long}

-- What is read of a record stays, whatever bytes come behind.
pub record RecordsStay : Type 0 where
  pub packet : (header : Header) (file more : List ℕ) (place : ℕ) (packet : Packet) → record_at header file place ≡ Some packet
      → record_at header (file ++ more) place ≡ Some packet
  pub bad : (header : Header) (file more : List ℕ) (place : ℕ) → is_too_long header file place ≡ true
      → (is_too_long header (file ++ more) place ≡ true) × (record_at header (file ++ more) place ≡ None)

-- Packets that stand one behind another from place 24 on, and behind which no record is read, are those of the capture, which
-- ends where they end.
abbrev pub FeedsReadCaptures : Type 0
FeedsReadCaptures =
    (header : Header) (file : List ℕ) (packets : List Packet) (place : ℕ) → length file ≤ 2 ^ 40 → header_of file ≡ Ok header
    → StandBetween (record_at header file) 24 packets place → record_at header file place ≡ None
    → capture_of file ≡ Ok (record { packets = packets; ending = ending_at file place })

-- The header is read, or refused for what it says and not for want of bytes.
abbrev pub IsSure : Result Header CaptureFault → Type 0
IsSure (Ok header) = Unit {0}
IsSure (Err (Short place)) = ⊥
IsSure (Err Magic) = Unit {0}
IsSure (Err Version) = Unit {0}
IsSure (Err Link) = Unit {0}
IsSure (Err NoMemory) = Unit {0}

-- What is sure of a header stays, whatever bytes come behind.
abbrev pub HeadersStay : Type 0
HeadersStay = (file more : List ℕ) → IsSure (header_of file) → header_of (file ++ more) ≡ header_of file

-- Packets that stand one behind another from place 24 on in the first bytes of a file are the first ones of its capture.
abbrev pub FrontsBeginCaptures : Type 0
FrontsBeginCaptures =
    (header : Header) (file more : List ℕ) (packets : List Packet) (place : ℕ) (capture : Capture) → length file ≤ 2 ^ 40 → header_of file ≡ Ok header
    → StandBetween (record_at header file) 24 packets place → capture_of (file ++ more) ≡ Ok capture
    → (others : List Packet) × (capture.packets ≡ packets ++ others)
