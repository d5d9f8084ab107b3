-- What a value of `Feed` stands for.
use Rattle.std.specs.Prelude.{◌≡◌, ℕ, ◌<◌, ◌≤◌, ◌^◌, Bool, true, false, ◌==◌, if◌then◌else◌, List, ◌++◌, length, drop, Option, Some, None}
use Rattle.std.specs.Option.{option_map}
use Rattle.zk_base.specs.Captured.{IsBounded, captured}
use Rattle.zk_base.specs.Held.{bytes_of}
use Rattle.zk_pcap.specs.declared.feed.Feed.{Feed}
use Rattle.zk_pcap.specs.declared.feed.Next.{Next}
use Rattle.zk_pcap.specs.declared.feed.Next.TheVariants as next
use Rattle.zk_pcap.specs.declared.headers.Header.{Header}
use Rattle.zk_pcap.specs.declared.records.Packet.{Packet}
use Rattle.zk_pcap.specs.Capture.{StandBetween}
use Rattle.zk_pcap.specs.Header.{number_of}
use Rattle.zk_pcap.specs.Record.{record_by, record_at, is_too_long_by, is_too_long}
use Rattle.zk_pcap.specs.View.{packet_of}

-- The feed is one of a file with this header, has got these bytes of it, and has gone on behind these packets: it holds
-- what stands behind them.
pub record StandsFor (feed : Feed) (header : Header) (file : List ℕ) (packets : List Packet) : Type 0 where
  pub big : feed.big ≡ header.big
  pub nano : feed.nano ≡ header.nano
  pub stand : StandBetween (record_at header file) 24 packets feed.place
  pub held : bytes_of feed.held ≡ drop feed.place file
  pub within : feed.place ≤ length file
  pub short : length file < 2 ^ 64

-- the feed has taken a piece more of whatever file it is one of
abbrev pub GoesOn : Feed → Feed → List ℕ → Type 0
GoesOn old new piece =
    (header : Header) (file : List ℕ) (packets : List Packet) → StandsFor old header file packets → length (file ++ piece) < 2 ^ 64
    → StandsFor new header (file ++ piece) packets

-- the record at the front of what is held, if it is whole
unfoldable pub first_record : Feed → Option Packet
first_record feed = record_by (number_of feed.big) feed.nano (bytes_of feed.held) 0

abbrev pub is_packet : Next → Bool
is_packet (next.Packet view) = true
is_packet next.NeedMore = false
is_packet (next.Bad place) = false

-- a packet that stands next keeps to the limits
abbrev pub NextIsBounded : Next → Type 0
NextIsBounded (next.Packet view) = (link : ℕ) → IsBounded (captured link view)
NextIsBounded next.NeedMore = Unit {0}
NextIsBounded (next.Bad place) = Unit {0}

-- what stands at a place of a file: a record that is whole, the front of one, or one that is too long
abbrev pub IsNext : Header → List ℕ → ℕ → Next → Type 0
IsNext header file place (next.Packet view) = record_at header file place ≡ Some (packet_of view)
IsNext header file place next.NeedMore = (record_at header file place ≡ None) × (is_too_long header file place ≡ false)
IsNext header file place (next.Bad at) = (record_at header file place ≡ None) × (is_too_long header file place ≡ true) × (at ≡ place)

-- a packet in another place of a file
abbrev pub placed : ℕ → Packet → Packet
placed place packet = record { moment = packet.moment; orig_len = packet.orig_len; bytes = packet.bytes; place = place }

-- what stands at the front of some bytes that begin at a place of a file
abbrev pub IsFirst : (ℕ → List ℕ → ℕ) → Bool → List ℕ → ℕ → Next → Type 0
IsFirst number nano held place (next.Packet view) = option_map (placed place) (record_by number nano held 0) ≡ Some (packet_of view)
IsFirst number nano held place next.NeedMore = (record_by number nano held 0 ≡ None) × (is_too_long_by number held 0 ≡ false)
IsFirst number nano held place (next.Bad at) = (record_by number nano held 0 ≡ None) × (is_too_long_by number held 0 ≡ true) × (at ≡ place)

-- where an unfinished record begins: behind the records that stand one behind another, if bytes stand there
abbrev pub RestIs : Header → List ℕ → ℕ → Option ℕ → Type 0
RestIs header file place rest =
    (packets : List Packet) (end : ℕ) → StandBetween (record_at header file) place packets end → record_at header file end ≡ None
    → rest ≡ (if end == length file then None else Some end)
