-- Captures that show what the definitions of `Items` say.
use Rattle.std.proofs.Common.{◌≡◌, ℕ, ◌*◌, ◌+◌, ◌^◌, pos, List, [], ◌∷◌, ◌++◌, length, map, refl}
use Rattle.std.specs.List.{flat_map}
use Rattle.std.specs.Prelude.{codes}
use Rattle.zk_base.specs.declared.network.Addr.TheVariants.{V4}
use Rattle.zk_base.specs.declared.network.Proto.{Proto}
use Rattle.zk_base.specs.declared.network.Proto.TheVariants.{Tcp, Udp}
use Rattle.zk_base.specs.declared.network.Side.{Side}
use Rattle.zk_base.specs.declared.network.Side.TheVariants.{Orig, Resp}
use Rattle.zk_base.specs.declared.time.Moment.{Moment}
use Rattle.zk_dns.specs.Data.{alone_at, data_at, data_of, soa_at, strings_of}
use Rattle.zk_dns.specs.Name.{ended, name_at, name_of, rest_at, run_at, run_of, run_step}
use Rattle.zk_dns.specs.Record.{record_of}
use Rattle.zk_dns.specs.Sections.{question_at, question_behind, resource_at, resource_behind, sections_behind, sections_of, several}
use Rattle.zk_dns.specs.Stream.{units_from, units_of}
use Rattle.zk_reasm.specs.Between.{held_between}
use Rattle.zk_reasm.specs.Direction.{above, byte_at, front, reach, run_end, steps as told_steps}
use Rattle.zk_reasm.specs.Histories.{content, counted, gets_place, is_over, kept_of, put_of}
use Rattle.zk_reasm.specs.Place.{byte_of, places_of}
use Rattle.zk_reasm.specs.Told.{acked, fin_place, payload_end}
use Rattle.zk_traffic.specs.declared.item.Item.{Item}
use Rattle.zk_traffic.specs.declared.item.What.{What}
use Rattle.zk_traffic.specs.declared.item.What.TheVariants as what
use Rattle.zk_traffic.specs.Conversation.{datagram_units, freed_with, with_segment}
use Rattle.zk_traffic.specs.Instances.{Instance, begun, instances, latest, live_at}
use Rattle.zk_traffic.specs.Items.{own_items, removed_at, segment_items}
use Rattle.zk_traffic.specs.Kept.{held_in}
use Rattle.zk_traffic.specs.Segments.{Segment}
use Rattle.zk_traffic.specs.Steps.{Step, steps}
use Rattle.zk_units.specs.Protocols.{protocol_at}
use Rattle.zk_units.specs.Units.{bytes_unread, message_unit, next_unit, units_freed}

-- a moment some milliseconds after the first
abbrev at : ℕ → Moment
at milliseconds = record { 0 = pos (1000 * milliseconds) }

-- a segment of the client 10.0.0.1:40001 to a port of the server 10.0.0.80, of whose payload the capture has these bytes
abbrev client_to : Proto → ℕ → ℕ → ℕ → ℕ → ℕ → ℕ → List ℕ → Segment
client_to proto port milliseconds flags seq ack len payload = record {
  moment = at milliseconds;
  view = record {
    src = V4 0x0a000001;
    dst = V4 0x0a000050;
    sport = 40001;
    dport = port;
    proto = proto;
    flags = flags;
    seq = seq;
    payload_len = len;
    ip_len = 40 + len;
  };
  ack = ack;
  payload = payload;
}

-- and back
abbrev server_from : Proto → ℕ → ℕ → ℕ → ℕ → ℕ → ℕ → List ℕ → Segment
server_from proto port milliseconds flags seq ack len payload = record {
  moment = at milliseconds;
  view = record {
    src = V4 0x0a000050;
    dst = V4 0x0a000001;
    sport = port;
    dport = 40001;
    proto = proto;
    flags = flags;
    seq = seq;
    payload_len = len;
    ip_len = 40 + len;
  };
  ack = ack;
  payload = payload;
}

-- of TCP, to and from port 22, of whose protocol nothing is known
abbrev client : ℕ → ℕ → ℕ → ℕ → List ℕ → Segment
client milliseconds flags seq ack payload = client_to Tcp 22 milliseconds flags seq ack (length payload) payload

abbrev server : ℕ → ℕ → ℕ → ℕ → List ℕ → Segment
server milliseconds flags seq ack payload = server_from Tcp 22 milliseconds flags seq ack (length payload) payload

record Shown : Type 0 where
  moment : Moment
  word : List ℕ
  numbers : List ℕ

abbrev side_of : Side → ℕ
side_of Orig = 0
side_of Resp = 1

-- what an item shows, its facts aside
abbrev shown_as : Moment → What → Shown
shown_as t (what.Seen own caplen len) = record { moment = t; word = codes "Seen"; numbers = caplen ∷ len ∷ [] }
shown_as t (what.Opened conn known) = record { moment = t; word = codes "Opened"; numbers = conn.0 ∷ [] }
shown_as t (what.Established conn known) = record { moment = t; word = codes "Established"; numbers = conn.0 ∷ [] }
shown_as t (what.Gap conn known side from count) = record { moment = t; word = codes "Gap"; numbers = conn.0 ∷ side_of side ∷ from ∷ count ∷ [] }
shown_as t (what.Http conn known side found) = record { moment = t; word = codes "Http"; numbers = conn.0 ∷ side_of side ∷ [] }
shown_as t (what.Dns conn known side len message) = record { moment = t; word = codes "Dns"; numbers = conn.0 ∷ side_of side ∷ len ∷ [] }
shown_as t (what.DnsBad conn known side fault len) = record { moment = t; word = codes "DnsBad"; numbers = conn.0 ∷ side_of side ∷ fault ∷ len ∷ [] }
shown_as t (what.Ended conn known side) = record { moment = t; word = codes "Ended"; numbers = conn.0 ∷ side_of side ∷ [] }
shown_as t (what.GaveUp conn known side) = record { moment = t; word = codes "GaveUp"; numbers = conn.0 ∷ side_of side ∷ [] }
shown_as t (what.Reset conn known) = record { moment = t; word = codes "Reset"; numbers = conn.0 ∷ [] }
shown_as t (what.Removed conn known) = record { moment = t; word = codes "Removed"; numbers = conn.0 ∷ [] }

-- the items of some segments, and then of the end
abbrev shown : List Segment → Moment → List Shown
shown segments last =
    map (λ (i : Item). shown_as i.moment i.what)
    (flat_map (λ (step : Step Segment). segment_items (2 ^ 20) step.before step.last) (steps segments) ++ map (removed_at last) (live_at (2 ^ 20) segments last))

-- two sides that exchange 3 and 2 bytes, and both close
exchange : List Segment
exchange =
    client 0 2 100 0 [] ∷ server 10 18 500 101 [] ∷ client 20 16 101 501 (71 ∷ 69 ∷ 84 ∷ []) ∷ server 30 16 501 104 (79 ∷ 75 ∷ [])
    ∷ client 40 17 104 503 [] ∷ server 50 17 503 105 [] ∷ client 60 16 105 504 [] ∷ []

exchange-items : shown exchange (at 60)
    ≡ record { moment = at 0; word = codes "Opened"; numbers = 1 ∷ [] } ∷ record { moment = at 10; word = codes "Established"; numbers = 1 ∷ [] }
    ∷ record { moment = at 40; word = codes "Ended"; numbers = 1 ∷ 0 ∷ [] } ∷ record { moment = at 50; word = codes "Ended"; numbers = 1 ∷ 1 ∷ [] }
    ∷ record { moment = at 60; word = codes "Removed"; numbers = 1 ∷ [] } ∷ []
unfolding exchange segment_items own_items latest begun instances with_segment front run_end byte_at reach told_steps acked fin_place payload_end places_of byte_of put_of content kept_of gets_place counted is_over above held_between freed_with datagram_units units_freed next_unit protocol_at
exchange-items = refl

-- the capture lacks the client's bytes: they are passed where more of the client is known, and stand before its end
gap : List Segment
gap = client 0 2 100 0 [] ∷ server 10 18 500 101 [] ∷ server 30 16 501 104 (79 ∷ 75 ∷ []) ∷ client 40 17 104 503 [] ∷ []

gap-items : shown gap (at 40)
    ≡ record { moment = at 0; word = codes "Opened"; numbers = 1 ∷ [] } ∷ record { moment = at 10; word = codes "Established"; numbers = 1 ∷ [] }
    ∷ record { moment = at 40; word = codes "Gap"; numbers = 1 ∷ 0 ∷ 0 ∷ 3 ∷ [] } ∷ record { moment = at 40; word = codes "Ended"; numbers = 1 ∷ 0 ∷ [] }
    ∷ record { moment = at 40; word = codes "Removed"; numbers = 1 ∷ [] } ∷ []
unfolding gap segment_items own_items latest begun instances with_segment front run_end byte_at reach told_steps acked fin_place payload_end places_of byte_of put_of content kept_of gets_place counted is_over above held_between freed_with datagram_units units_freed next_unit protocol_at
gap-items = refl

-- the client resets, and the server's FIN comes behind that, at the place where its stopped stream stands: nothing is said of it
fin_behind_reset : List Segment
fin_behind_reset = client 0 2 100 0 [] ∷ server 10 18 500 101 [] ∷ client 20 4 101 0 [] ∷ server 30 17 501 101 [] ∷ []

fin_behind_reset-items : shown fin_behind_reset (at 30)
    ≡ record { moment = at 0; word = codes "Opened"; numbers = 1 ∷ [] } ∷ record { moment = at 10; word = codes "Established"; numbers = 1 ∷ [] }
    ∷ record { moment = at 20; word = codes "Reset"; numbers = 1 ∷ [] } ∷ record { moment = at 30; word = codes "Removed"; numbers = 1 ∷ [] } ∷ []
unfolding fin_behind_reset segment_items own_items latest begun instances with_segment front run_end byte_at reach told_steps acked fin_place payload_end places_of byte_of put_of content kept_of gets_place counted is_over above held_between freed_with datagram_units units_freed next_unit protocol_at
fin_behind_reset-items = refl

-- the least message of DNS: a header that counts nothing
least : List ℕ
least = 0 ∷ 1 ∷ 0 ∷ 0 ∷ 0 ∷ 0 ∷ 0 ∷ 0 ∷ 0 ∷ 0 ∷ 0 ∷ 0 ∷ []

-- datagrams of DNS: a message; one of which not all was captured, which gives nothing; and a byte that is no message
datagrams : List Segment
datagrams = client_to Udp 53 0 0 0 0 12 least ∷ server_from Udp 53 10 0 0 0 20 least ∷ server_from Udp 53 20 0 0 0 1 (7 ∷ []) ∷ []

datagrams-items : shown datagrams (at 20)
    ≡ record { moment = at 0; word = codes "Opened"; numbers = 1 ∷ [] } ∷ record { moment = at 0; word = codes "Dns"; numbers = 1 ∷ 0 ∷ 12 ∷ [] }
    ∷ record { moment = at 20; word = codes "DnsBad"; numbers = 1 ∷ 1 ∷ 1 ∷ 1 ∷ [] } ∷ record { moment = at 20; word = codes "Removed"; numbers = 1 ∷ [] } ∷ []
unfolding datagrams least segment_items own_items latest begun instances with_segment freed_with datagram_units units_freed next_unit protocol_at message_unit record_of sections_of sections_behind several question_at question_behind resource_at resource_behind name_at rest_at name_of ended run_at run_of run_step data_at data_of alone_at soa_at strings_of units_of units_from
datagrams-items = refl

-- of a message of DNS over TCP the length, 12, and one byte have come: these three bytes are held
part : List Segment
part = client_to Tcp 53 0 2 100 0 0 [] ∷ server_from Tcp 53 10 18 500 101 0 [] ∷ client_to Tcp 53 20 16 101 501 3 (0 ∷ 12 ∷ 7 ∷ []) ∷ []

part-held : map (λ (i : Instance). held_in (2 ^ 20) i.conversation) (instances (2 ^ 20) part) ≡ 3 ∷ []
unfolding part latest begun instances with_segment front run_end byte_at reach told_steps acked fin_place payload_end places_of byte_of put_of content kept_of gets_place counted is_over above held_between freed_with datagram_units units_freed next_unit protocol_at bytes_unread units_of units_from
part-held = refl
