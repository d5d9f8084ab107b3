-- A capture: its header, the packets whose records stand one behind another from place 24 on, and
-- how it ends.
use Rattle.std.specs.Prelude.{◌≡◌, ℕ, zero, suc, ◌==◌, if◌then◌else◌, List, [], ◌∷◌, length, Option, Some, None, Result, Ok, Err}
use Rattle.std.specs.Option.{option_map_or}
use Rattle.zk_base.specs.declared.capture.CaptureEnding.{CaptureEnding}
use Rattle.zk_base.specs.declared.capture.CaptureEnding.TheVariants.{Whole, Cut}
use Rattle.zk_pcap.specs.declared.headers.Header.{Header}
use Rattle.zk_pcap.specs.declared.records.Packet.{Packet}
use Rattle.zk_pcap.specs.declared.captures.Capture.{Capture}
use Rattle.zk_pcap.specs.declared.faults.CaptureFault.{CaptureFault}
use Rattle.zk_pcap.specs.declared.faults.CaptureFault.TheVariants.{Short, Magic, Version, Link, NoMemory}
use Rattle.zk_pcap.specs.Header.{counted, header_of}
use Rattle.zk_pcap.specs.Record.{record_at, end_of}

-- The packets whose records stand one behind another from a place on, n of them at most. `read`
-- gives the packet of the record that begins at a place.
abbrev pub packets_from : ℕ → (ℕ → Option Packet) → ℕ → List Packet
packets_from zero read place = []
packets_from (suc n) read place =
    option_map_or (λ packet. packet ∷ packets_from n read (end_of packet)) (read place) []

-- the place behind the last of the packets, which begin at a place
abbrev pub end_from : ℕ → List Packet → ℕ
end_from place [] = place
end_from place (packet ∷ packets) = end_from (end_of packet) packets

-- the bytes that count end at this place, or the capture is cut there
abbrev pub ending_at : List ℕ → ℕ → CaptureEnding
ending_at bytes place = if place == length bytes then Whole else Cut place

-- the capture that a file with this header is
abbrev pub capture_after : Result Header CaptureFault → List ℕ → Result Capture CaptureFault
capture_after (Err fault) bytes = Err fault
capture_after (Ok header) bytes =
    let packets = packets_from (length bytes) (record_at header bytes) 24 in
    Ok (record { packets = packets; ending = ending_at bytes (end_from 24 packets) })

-- the capture that a file is, or what is wrong with its header
abbrev pub capture_of : List ℕ → Result Capture CaptureFault
capture_of bytes = capture_after (header_of (counted bytes)) (counted bytes)

-- what was answered is the wanted, unless memory ran out
abbrev pub UnlessNoMemory : Result Capture CaptureFault → Result Capture CaptureFault → Type 0
UnlessNoMemory (Ok capture) wanted = Ok capture ≡ wanted
UnlessNoMemory (Err (Short place)) wanted = Err (Short place) ≡ wanted
UnlessNoMemory (Err Magic) wanted = Err Magic ≡ wanted
UnlessNoMemory (Err Version) wanted = Err Version ≡ wanted
UnlessNoMemory (Err Link) wanted = Err Link ≡ wanted
UnlessNoMemory (Err NoMemory) wanted = Unit {0}

-- the packets are those of the records that stand one behind another between two places
abbrev pub StandBetween : (ℕ → Option Packet) → ℕ → List Packet → ℕ → Type 0
StandBetween read from [] to = from ≡ to
StandBetween read from (packet ∷ packets) to =
    (read from ≡ Some packet) × StandBetween read (end_of packet) packets to

-- a file with this header has these packets, and they end at this place
pub record HasPackets (bytes : List ℕ) (header : Header) (packets : List Packet) (place : ℕ) : Type 0 where
  pub opens : header_of bytes ≡ Ok header
  pub records : StandBetween (record_at header bytes) 24 packets place
  pub no_more : record_at header bytes place ≡ None

-- the capture is what its file has
abbrev pub IsRead : List ℕ → Capture → Type 0
IsRead bytes capture =
    (header : Header) × (place : ℕ) × HasPackets bytes header capture.packets place × (capture.ending ≡ ending_at bytes place)

-- no other packets and no other ending are what the file has
abbrev pub IsAlone : List ℕ → Capture → Type 0
IsAlone bytes capture =
    (header : Header) (packets : List Packet) (place : ℕ) → HasPackets bytes header packets place
    → (capture.packets ≡ packets) × (capture.ending ≡ ending_at bytes place)
