-- The units that the two streams of a connection free, in their order.
use Rattle.std.specs.Prelude.{ℕ, zero, suc, List, [], ◌∷◌, ◌++◌, length, drop, fold, count_by, is_some, slice_get, Option, Some, None, Result, Ok, Err}
use Rattle.std.specs.List.{filter_map, last_or}
use Rattle.std.specs.Option.{option_map, option_or}
use Rattle.zk_base.specs.Places.{Place}
use Rattle.zk_base.specs.declared.network.Side.{Side}
use Rattle.zk_base.specs.declared.network.Side.TheVariants.{Orig, Resp}
use Rattle.zk_dns.specs.declared.fault.DnsFault.{DnsFault}
use Rattle.zk_dns.specs.declared.fault.DnsFault.TheVariants.{Short, Label, Name, Pointer, Data, Trailing}
use Rattle.zk_dns.specs.declared.record.DnsRecord.{DnsRecord}
use Rattle.zk_dns.specs.Record.{record_of}
use Rattle.zk_dns.specs.Stream as dns
use Rattle.zk_http.specs.declared.units.«Unit».{«Unit» as HttpUnit}
use Rattle.zk_base.specs.Sides.{other}
use Rattle.zk_http.specs.Places.{Both, Stream, of_side}
use Rattle.zk_http.specs.Units as http
use Rattle.zk_units.specs.declared.protocol.Protocol.{Protocol}
use Rattle.zk_units.specs.declared.protocol.Protocol.TheVariants as speaks
use Rattle.zk_units.specs.declared.stream_unit.Freed.{Freed}
use Rattle.zk_units.specs.declared.stream_unit.StreamUnit.{StreamUnit}
use Rattle.zk_units.specs.declared.stream_unit.StreamUnit.TheVariants.{Http, Dns, DnsBad}

-- ---- DNS

-- the number of a fault, in the order in which they are judged
abbrev pub fault_number : DnsFault → ℕ
fault_number (Short place) = 1
fault_number (Label place) = 2
fault_number (Name place) = 3
fault_number (Pointer place) = 4
fault_number (Data place) = 5
fault_number (Trailing place) = 6

-- a gap where a length or a message goes on
abbrev pub gap_fault : ℕ
gap_fault = 7

abbrev pub judged : ℕ → Result DnsRecord DnsFault → StreamUnit
judged len (Ok message) = Dns len message
judged len (Err fault) = DnsBad (fault_number fault) len

-- what these bytes are, which should be a message (RFC 1035, section 4.1)
unfoldable pub message_unit : List ℕ → StreamUnit
message_unit bytes = judged (length bytes) (record_of bytes)

abbrev pub tcp_unit : dns.TcpUnit → StreamUnit
tcp_unit (dns.Message end bytes) = message_unit bytes
tcp_unit (dns.Gap place) = DnsBad gap_fault 0

-- ---- the next unit of a side

abbrev pub http_in : StreamUnit → Option HttpUnit
http_in (Http found) = Some found
http_in (Dns len message) = None
http_in (DnsBad fault len) = None

-- the units of HTTP among these
abbrev pub http_units : Both (List StreamUnit) → Both (List HttpUnit)
http_units units = record { orig = filter_map http_in units.orig; resp = filter_map http_in units.resp }

-- the next unit of a side behind these of both sides, if the streams free one (RFC 9112; RFC 1035, section 4.2.2)
abbrev pub next_by : Option Protocol → Side → Both Stream → Both (List StreamUnit) → Option StreamUnit
next_by None side streams units = None
next_by (Some speaks.Http) side streams units = option_map Http (http.next side streams (http_units units))
next_by (Some speaks.Dns) side streams units =
    option_map tcp_unit (slice_get (dns.units (of_side side streams).places) (length (of_side side units)))

unfoldable pub next_unit : Option Protocol → Side → Both Stream → Both (List StreamUnit) → Option StreamUnit
next_unit protocol side streams units = next_by protocol side streams units

-- ---- the units of both sides, one after another

abbrev pub freed : Side → StreamUnit → Freed
freed side found = record { side = side; «unit» = found }

abbrev pub add_to : Side → StreamUnit → Both (List StreamUnit) → Both (List StreamUnit)
add_to Orig found units = record { orig = units.orig ++ found ∷ []; resp = units.resp }
add_to Resp found units = record { orig = units.orig; resp = units.resp ++ found ∷ [] }

abbrev pub add : Freed → Both (List StreamUnit) → Both (List StreamUnit)
add found units = add_to found.side found.«unit» units

abbrev pub add_all : List Freed → Both (List StreamUnit) → Both (List StreamUnit)
add_all found units = fold (λ known next. add next known) units found

abbrev pub no_units : Both (List StreamUnit)
no_units = record { orig = []; resp = [] }

-- the next unit of this side, or where it has none that of the other
abbrev pub next_of_both : Option Protocol → Side → Both Stream → Both (List StreamUnit) → Option Freed
next_of_both protocol side streams units =
    option_or (option_map (freed side) (next_unit protocol side streams units))
    (option_map (freed (other side)) (next_unit protocol (other side) streams units))

-- at most so many units: those of this side until it has none, then those of the other until it has none, and so on until
-- neither has one
unfoldable pub units_freed : ℕ → Option Protocol → Side → Both Stream → Both (List StreamUnit) → List Freed
units_freed zero protocol side streams units = []
units_freed (suc n) protocol side streams units =
    elim (next_of_both protocol side streams units) [ None ↦ [] | Some found ↦ found ∷ units_freed n protocol found.side streams (add found units) ]

-- more than two streams ever free
abbrev pub many : ℕ
many = 18446744073709551616

-- the units that streams free behind those that they freed before, where this side is asked first
abbrev pub all_freed : Option Protocol → Side → Both Stream → Both (List StreamUnit) → List Freed
all_freed protocol side streams units = units_freed many protocol side streams units

-- ---- what is not read yet, where no further unit is freed

-- the places of DNS over TCP behind a unit: none behind a gap, where the side is over
abbrev pub behind_last : Option dns.TcpUnit → List Place → List Place
behind_last None places = places
behind_last (Some (dns.Message end bytes)) places = drop end places
behind_last (Some (dns.Gap place)) places = []

-- the places behind the last whole message
abbrev pub dns_unread : List Place → List Place
dns_unread places = behind_last (last_or None (dns.units places)) places

-- the places of a side that are not read yet; a stream that nothing reads is taken unread
abbrev pub places_unread : Option Protocol → Side → Both Stream → Both (List StreamUnit) → List Place
places_unread None side streams units = []
places_unread (Some speaks.Http) side streams units = http.unread side streams (http_units units)
places_unread (Some speaks.Dns) side streams units = dns_unread (of_side side streams).places

-- how many of some places are bytes
abbrev pub bytes_in : List Place → ℕ
bytes_in places = count_by is_some places

-- how many bytes of a side are not read yet
unfoldable pub bytes_unread : Option Protocol → Side → Both Stream → Both (List StreamUnit) → ℕ
bytes_unread protocol side streams units = bytes_in (places_unread protocol side streams units)
