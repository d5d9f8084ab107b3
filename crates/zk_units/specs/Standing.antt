-- What the readers of a connection stand for.
use Rattle.std.specs.Prelude.{◌≡◌, ℕ, ◌+◌, ◌≤◌, Bool, true, false, ◌||◌, List, [], ◌++◌, length, drop, slice_get, Option, Some, None}
use Rattle.std.specs.List.{last_or}
use Rattle.std.specs.Option.{option_map, option_to_list}
use Rattle.zk_base.specs.ByteQueue.{bytes_of}
use Rattle.zk_base.specs.Places.{Place}
use Rattle.zk_base.specs.declared.network.Side.{Side}
use Rattle.zk_base.specs.declared.network.Side.TheVariants.{Orig, Resp}
use Rattle.zk_dns.specs.Stream as dns
use Rattle.zk_http.specs.declared.units.«Unit».{«Unit» as HttpUnit}
use Rattle.zk_base.specs.Sides.{other}
use Rattle.zk_http.specs.Places.{Both, Stream, of_side}
use Rattle.zk_http.specs.Units.{add, next, unread as not_read}
use Rattle.zk_http.specs.Standing as http
use Rattle.zk_units.specs.declared.dns.DnsReader.{DnsReader}
use Rattle.zk_units.specs.declared.dns.DnsSide.{DnsSide}
use Rattle.zk_units.specs.declared.http_reader.HttpReader.{HttpReader}
use Rattle.zk_units.specs.declared.protocol.Protocol.{Protocol}
use Rattle.zk_units.specs.declared.protocol.Protocol.TheVariants as speaks
use Rattle.zk_units.specs.declared.readers.Reader.{Reader}
use Rattle.zk_units.specs.declared.readers.Reader.TheVariants as reads
use Rattle.zk_units.specs.declared.readers.Readers.{Readers}
use Rattle.zk_units.specs.declared.stream_unit.StreamUnit.{StreamUnit}
use Rattle.zk_units.specs.declared.unread.Unread.{Unread}
use Rattle.zk_units.specs.HttpTurns.{IsUnread}
use Rattle.zk_units.specs.declared.stream_unit.Freed.{Freed}
use Rattle.zk_units.specs.Units.{add_all, add_to, all_freed, behind_last, bytes_unread, dns_unread, http_units, next_by, next_of_both, next_unit, tcp_unit}
use Rattle.zk_units.specs.Unread.{places_of}

-- ---- HTTP

abbrev pub unread_of : Side → HttpReader → Unread
unread_of Orig reader = reader.orig
unread_of Resp reader = reader.resp

pub record HttpStands (reader : HttpReader) (streams : Both Stream) (units : Both (List HttpUnit)) : Type 0 where
  pub stands : http.StandsFor reader.http streams units
  pub orig : IsUnread Orig reader.http reader.orig streams.orig
  pub resp : IsUnread Resp reader.http reader.resp streams.resp

-- a side has this next unit; where it has none, few bytes of it are kept
pub record NextIs (side : Side) (old new : HttpReader) (found : Option HttpUnit) (streams : Both Stream) (units : Both (List HttpUnit)) : Type 0 where
  pub next_is : next side streams units ≡ found
  pub stands : HttpStands new streams (add side found units)
  pub few : found ≡ None → length (bytes_of (unread_of side new).bytes) ≤ 65536
  pub left : found ≡ None → places_of (unread_of side new) ≡ not_read side streams units
  pub other : unread_of (other side) new ≡ unread_of (other side) old

-- ---- DNS over TCP

-- a side goes on: behind the units that were given stand those of what was not used, whatever comes behind it
pub record GoesOn (unread : Unread) (places : List Place) (given : List dns.TcpUnit) : Type 0 where
  pub from : ℕ
  pub within : from ≤ length places
  pub places_are : places_of unread ≡ drop from places
  pub units_are : (more : List Place) → dns.units (places ++ more) ≡ given ++ dns.units_from from (drop from (places ++ more))
  pub behind_is : (all : List Place) → behind_last (last_or None given) all ≡ drop from all

-- a side gives nothing more, whatever comes
pub record IsOver (unread : Unread) (places : List Place) (given : List dns.TcpUnit) : Type 0 where
  pub none : places_of unread ≡ []
  pub units_are : (more : List Place) → dns.units (places ++ more) ≡ given
  pub behind_is : (all : List Place) → behind_last (last_or None given) all ≡ []

abbrev pub Stands : Bool → Unread → List Place → List dns.TcpUnit → Type 0
Stands false unread places given = GoesOn unread places given
Stands true unread places given = IsOver unread places given

pub record SideStands (side : DnsSide) (stream : Stream) (count : ℕ) : Type 0 where
  pub given : List dns.TcpUnit
  pub count_is : length given ≡ count
  pub stands : Stands side.is_over side.«unread» stream.places given

pub record DnsStands (reader : DnsReader) (streams : Both Stream) (units : Both (List StreamUnit)) : Type 0 where
  pub orig : SideStands reader.orig streams.orig (length units.orig)
  pub resp : SideStands reader.resp streams.resp (length units.resp)

-- a side has this next unit; where it has none, few bytes of it are kept
pub record SideTurn (new : DnsSide) (found : Option StreamUnit) (stream : Stream) (count : ℕ) : Type 0 where
  pub next_is : option_map tcp_unit (slice_get (dns.units stream.places) count) ≡ found
  pub stands : SideStands new stream (count + length (option_to_list found))
  pub few : found ≡ None → length (bytes_of new.«unread».bytes) ≤ 65536
  pub left : found ≡ None → places_of new.«unread» ≡ dns_unread stream.places

abbrev pub dns_side : Side → DnsReader → DnsSide
dns_side Orig reader = reader.orig
dns_side Resp reader = reader.resp

abbrev pub add_some : Side → Option StreamUnit → Both (List StreamUnit) → Both (List StreamUnit)
add_some side None units = units
add_some side (Some found) units = add_to side found units

pub record DnsTurn (side : Side) (old new : DnsReader) (found : Option StreamUnit) (streams : Both Stream) (units : Both (List StreamUnit)) : Type 0 where
  pub next_is : next_by (Some speaks.Dns) side streams units ≡ found
  pub stands : DnsStands new streams (add_some side found units)
  pub few : found ≡ None → length (bytes_of (dns_side side new).«unread».bytes) ≤ 65536
  pub left : found ≡ None → places_of (dns_side side new).«unread» ≡ dns_unread (of_side side streams).places
  pub other : dns_side (other side) new ≡ dns_side (other side) old

-- ---- both

abbrev pub StandsBy : Reader → Option Protocol → Both Stream → Both (List StreamUnit) → Type 0
StandsBy reads.Silent None streams units = Unit {0}
StandsBy reads.Silent (Some protocol) streams units = ⊥
StandsBy (reads.Http reader) (Some speaks.Http) streams units = HttpStands reader streams (http_units units)
StandsBy (reads.Http reader) (Some speaks.Dns) streams units = ⊥
StandsBy (reads.Http reader) None streams units = ⊥
StandsBy (reads.Dns reader) (Some speaks.Dns) streams units = DnsStands reader streams units
StandsBy (reads.Dns reader) (Some speaks.Http) streams units = ⊥
StandsBy (reads.Dns reader) None streams units = ⊥

-- The readers go on as those of a connection that speaks this protocol, which were given these streams up to their fronts and
-- have given these units.
unfoldable pub StandsFor : Readers → Option Protocol → Both Stream → Both (List StreamUnit) → Type 0
StandsFor readers protocol streams units = StandsBy readers.reader protocol streams units

-- ---- what a call does

abbrev pub no_stream : Stream
no_stream = record { places = []; ended = false }

abbrev pub no_streams : Both Stream
no_streams = record { orig = no_stream; resp = no_stream }

-- the stream of one side in place of that which was there
abbrev pub with_stream : Side → Stream → Both Stream → Both Stream
with_stream Orig stream streams = record { orig = stream; resp = streams.resp }
with_stream Resp stream streams = record { orig = streams.orig; resp = stream }

-- these places stand behind a stream
abbrev pub behind : Stream → List Place → Stream
behind stream places = record { places = stream.places ++ places; ended = stream.ended }

abbrev pub ended_by : Stream → Bool → Stream
ended_by stream ended = record { places = stream.places; ended = stream.ended || ended }

-- how many bytes of a side are kept
abbrev pub held_by : Side → Reader → ℕ
held_by side reads.Silent = 0
held_by Orig (reads.Http reader) = length (bytes_of reader.orig.bytes)
held_by Resp (reads.Http reader) = length (bytes_of reader.resp.bytes)
held_by Orig (reads.Dns reader) = length (bytes_of reader.orig.«unread».bytes)
held_by Resp (reads.Dns reader) = length (bytes_of reader.resp.«unread».bytes)

unfoldable pub held_in : Side → Readers → ℕ
held_in side readers = held_by side readers.reader

-- the readers' next unit of a side; where there is none, few bytes of it are kept
pub record Turn (side : Side) (old new : Readers) (found : Option StreamUnit) (protocol : Option Protocol) (streams : Both Stream) (units : Both (List StreamUnit)) : Type 0 where
  pub next_is : next_unit protocol side streams units ≡ found
  pub stands : StandsFor new protocol streams (add_some side found units)
  pub few : found ≡ None → held_in side new ≤ 65536
  pub left : found ≡ None → held_in side new ≡ bytes_unread protocol side streams units
  pub other : held_in (other side) new ≡ held_in (other side) old

-- the next unit of both, this side's before the other's
pub record BothTurn (side : Side) (new : Readers) (found : Option Freed) (protocol : Option Protocol) (streams : Both Stream) (units : Both (List StreamUnit)) : Type 0 where
  pub next_is : next_of_both protocol side streams units ≡ found
  pub stands : StandsFor new protocol streams (add_all (option_to_list found) units)
  pub few : found ≡ None → (side : Side) → held_in side new ≤ 65536
  pub left : found ≡ None → (side : Side) → held_in side new ≡ bytes_unread protocol side streams units

-- all units were read, and what is kept of a side are the bytes that are not read
pub record Reads (first : Side) (old new : Readers) (before after : List Freed) (protocol : Option Protocol) (streams : Both Stream) (units : Both (List StreamUnit)) : Type 0 where
  pub given : after ≡ before ++ all_freed protocol first streams units
  pub stands : StandsFor new protocol streams (add_all (all_freed protocol first streams units) units)
  pub few : (side : Side) → held_in side new ≤ 65536
  pub left : (side : Side) → held_in side new ≡ bytes_unread protocol side streams (add_all (all_freed protocol first streams units) units)

-- The readers were given these places of a side, which had not ended where there are any.
pub record Gets (side : Side) (places : List Place) (old new : Readers) : Type 0 where
  pub stands : (protocol : Option Protocol) (streams : Both Stream) (units : Both (List StreamUnit))
      → ((of_side side streams).ended ≡ true → places ≡ []) → StandsFor old protocol streams units
      → StandsFor new protocol (with_stream side (behind (of_side side streams) places) streams) units
