-- What the segments of one connection tell: connections of its packets and streams (zk_conn), its two streams of their bytes,
-- FINs and acknowledgements (zk_reasm), and the units that the streams free (zk_units).
use Rattle.std.specs.Prelude.{ℕ, ◌+◌, ◌%◌, ◌^◌, nat_lt, Bool, true, false, not, ◌&&◌, ◌==◌, if◌then◌else◌, List, [], ◌∷◌, ◌++◌, length, Option, Some, None}
use Rattle.zk_base.specs.declared.network.Side.{Side}
use Rattle.zk_base.specs.declared.network.Side.TheVariants.{Orig, Resp}
use Rattle.zk_base.specs.Sides.{other}
use Rattle.zk_conn.specs.declared.key.Endpoint.{Endpoint}
use Rattle.zk_conn.specs.declared.key.Key.{Key}
use Rattle.zk_conn.specs.Instance.{Opening, originator, responder, side_of, same_side, is_reset}
use Rattle.zk_conn.specs.Segment.{key_of, is_tcp, has_syn, has_ack, has_fin, has_rst}
use Rattle.zk_conn.specs.Told as conn
use Rattle.zk_reasm.specs.declared.stream.Put as put
use Rattle.zk_reasm.specs.declared.stream.Put.TheVariants.{Grew, Kept, Old, GaveUp}
use Rattle.zk_http.specs.Places.{Both, Stream}
use Rattle.zk_reasm.specs.Histories.{content, front_of, ended_of, put_of}
use Rattle.zk_reasm.specs.Told as stream
use Rattle.zk_traffic.specs.Segments.{Segment}
use Rattle.zk_units.specs.declared.protocol.Protocol.{Protocol}
use Rattle.zk_units.specs.declared.protocol.Protocol.TheVariants as speaks
use Rattle.zk_units.specs.declared.stream_unit.Freed.{Freed}
use Rattle.zk_units.specs.declared.stream_unit.StreamUnit.{StreamUnit}
use Rattle.zk_units.specs.Protocols.{protocol_at}
use Rattle.zk_units.specs.Units.{add_all, all_freed, freed, message_unit, no_units}

-- the stream of a side that sent a SYN: the number of its first SYN, and what it was told
pub record Direction : Type 0 where
  pub base : ℕ
  pub told : List stream.Told

pub record Conversation : Type 0 where
  -- its first packet
  pub first : Opening
  -- what connections are told of it
  pub events : List conn.Told
  pub orig : Option Direction
  pub resp : Option Direction
  -- the units that its streams freed
  pub units : Both (List StreamUnit)

abbrev pub originator_of : Conversation → Endpoint
originator_of c = originator c.first.packet

abbrev pub direction : Conversation → Side → Option Direction
direction c Orig = c.orig
direction c Resp = c.resp

-- the side that sends a segment
abbrev pub sender_in : Conversation → Segment → Side
sender_in c s = side_of (originator_of c) s.view

-- before its first segment
abbrev pub unbegun : Segment → Conversation
unbegun s = record { first = record { moment = s.moment; packet = s.view }; events = []; orig = None; resp = None; units = no_units }

-- the sequence number of the payload: it stands behind the SYN (RFC 9293, section 3.4)
abbrev pub payload_number : Segment → ℕ
payload_number s = (s.view.seq + (if has_syn s.view then 1 else 0)) % 2 ^ 32

-- the sequence number of a FIN: it stands behind the full payload
abbrev pub fin_number : Segment → ℕ
fin_number s = (payload_number s + s.view.payload_len) % 2 ^ 32

abbrev pub stop_told : Bool → List stream.Told
stop_told stops = if stops then stream.Stop ∷ [] else []

abbrev pub fin_told : Segment → List stream.Told
fin_told s = if has_fin s.view then stream.Fin (fin_number s) ∷ [] else []

-- what the sender's stream is told: nothing beside an RST
abbrev pub sent_told : Segment → List stream.Told
sent_told s = if has_rst s.view then [] else fin_told s ++ stream.Segment (payload_number s) s.payload ∷ []

-- what the receiver's stream is told: nothing beside an RST
abbrev pub acknowledged_told : Segment → List stream.Told
acknowledged_told s = if not (has_rst s.view) && has_ack s.view then stream.Ack s.ack ∷ [] else []

abbrev pub told_more : List stream.Told → Option Direction → Option Direction
told_more more None = None
told_more more (Some d) = Some (record { base = d.base; told = d.told ++ more })

-- The sender's stream ahead of what the segment tells it: a first SYN begins it. It stops where the segment resets the
-- connection, or where it begins in one that was reset.
abbrev pub begun_by : Bool → Bool → Segment → Option Direction → Option Direction
begun_by resets was_reset s None = if has_syn s.view then Some (record { base = s.view.seq; told = stop_told was_reset }) else None
begun_by resets was_reset s (Some d) = told_more (stop_told resets) (Some d)

-- what connections are told of the packets of a conversation with one more segment
abbrev pub with_packet : Conversation → Segment → List conn.Told
with_packet c s = c.events ++ conn.Packet s.moment s.view ∷ []

-- the connection was reset, by this segment or before
abbrev pub was_reset_with : Conversation → Segment → Bool
was_reset_with c s = is_reset (originator_of c) (with_packet c s)

-- the segment resets the connection
abbrev pub resets : Conversation → Segment → Bool
resets c s = was_reset_with c s && not (is_reset (originator_of c) c.events)

abbrev pub sender_stream : Conversation → Segment → Option Direction
sender_stream c s = begun_by (resets c s) (was_reset_with c s) s (direction c (sender_in c s))

-- a side's stream with one more segment
abbrev pub direction_with : Conversation → Segment → Side → Option Direction
direction_with c s side =
    if same_side side (sender_in c s) then told_more (sent_told s) (sender_stream c s)
    else told_more (acknowledged_told s) (told_more (stop_told (resets c s)) (direction c side))

-- the sender's stream gives up with the segment: more bytes than the limit lie above its front
abbrev pub is_gave_up : put.Put → Bool
is_gave_up Grew = false
is_gave_up Kept = false
is_gave_up Old = false
is_gave_up GaveUp = true

abbrev pub put_with : ℕ → Segment → Option Direction → Bool
put_with limit s None = false
put_with limit s (Some d) = is_gave_up (put_of d.base limit d.told (payload_number s) s.payload)

abbrev pub gives_up : ℕ → Conversation → Segment → Bool
gives_up limit c s = not (has_rst s.view) && put_with limit s (told_more (fin_told s) (sender_stream c s))

abbrev pub front_at : ℕ → Option Direction → ℕ
front_at limit None = 0
front_at limit (Some d) = front_of d.base limit d.told

abbrev pub has_ended : ℕ → Option Direction → Bool
has_ended limit None = false
has_ended limit (Some d) = ended_of d.base limit d.told

-- what connections are told of a side's stream: its front where it has moved, and that it has reached its FIN
abbrev pub moved : ℕ → Key → Side → Option Direction → Option Direction → List conn.Told
moved limit key side before after =
    (if front_at limit before == front_at limit after then [] else conn.Front key side (front_at limit after) ∷ [])
    ++ (if has_ended limit after && not (has_ended limit before) then conn.Reached key side ∷ [] else [])

abbrev pub moved_with : ℕ → Conversation → Segment → Side → List conn.Told
moved_with limit c s side = moved limit (key_of s.view) side (direction c side) (direction_with c s side)

-- ---- units

-- what it speaks: the responder's port tells it
abbrev pub protocol_of : Conversation → Option Protocol
protocol_of c = protocol_at c.first.packet.proto (responder c.first.packet).port

-- a side's stream up to its front, whole
abbrev pub stream_of : ℕ → Option Direction → Stream
stream_of limit None = record { places = []; ended = false }
stream_of limit (Some d) = record { places = content d.base limit d.told 0; ended = ended_of d.base limit d.told }

abbrev pub streams_of : ℕ → Option Direction → Option Direction → Both Stream
streams_of limit orig resp = record { orig = stream_of limit orig; resp = stream_of limit resp }

-- the units that the streams free with one more segment: those of its side are asked for first
unfoldable pub freed_with : ℕ → Conversation → Segment → List Freed
freed_with limit c s =
    all_freed (protocol_of c) (sender_in c s) (streams_of limit (direction_with c s Orig) (direction_with c s Resp)) c.units

abbrev pub speaks_dns : Option Protocol → Bool
speaks_dns None = false
speaks_dns (Some speaks.Http) = false
speaks_dns (Some speaks.Dns) = true

-- not all of the payload was captured
abbrev pub is_cut : Segment → Bool
is_cut s = nat_lt (length s.payload) s.view.payload_len

-- what a datagram of DNS says, unless it was cut (RFC 1035, section 4.2.1)
unfoldable pub datagram_units : Conversation → Segment → List Freed
datagram_units c s =
    if not (is_tcp s.view.proto) && (speaks_dns (protocol_of c) && not (is_cut s)) then freed (sender_in c s) (message_unit s.payload) ∷ [] else []

-- a conversation with one more segment; a stream gives up once more bytes than the limit lie above its front
unfoldable pub with_segment : ℕ → Conversation → Segment → Conversation
with_segment limit c s = record {
  first = c.first;
  events = with_packet c s ++ (moved_with limit c s (sender_in c s) ++ moved_with limit c s (other (sender_in c s)));
  orig = direction_with c s Orig;
  resp = direction_with c s Resp;
  units = add_all (freed_with limit c s) c.units;
}
