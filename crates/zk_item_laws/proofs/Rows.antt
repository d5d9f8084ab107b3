-- A capture that shows what the laws speak of: two connections between each other's packets, of which the first begins again.
use Rattle.std.proofs.Common.{◌≡◌, ℕ, ◌*◌, ◌^◌, pos, false, true, List, [], ◌∷◌, ◌++◌, map, refl}
use Rattle.std.specs.Prelude.{codes}
use Rattle.zk_base.specs.declared.time.Moment.{Moment}
use Rattle.zk_base.specs.declared.network.TheConstants.{LINKTYPE_RAW}
use Rattle.zk_l4.specs.Udp as udp
use Rattle.zk_base.specs.Captured.{Captured}
use Rattle.zk_traffic.specs.declared.item.Item.{Item}
use Rattle.zk_traffic.specs.declared.item.What.{What}
use Rattle.zk_traffic.specs.declared.item.What.TheVariants as what
use Rattle.zk_traffic.specs.declared.options.Options.{Options}
use Rattle.zk_traffic.specs.Conversation.{datagram_units, freed_with, with_segment}
use Rattle.zk_traffic.specs.Datagram.{datagram_at, fragments}
use Rattle.zk_traffic.specs.Instances.{begun, instances, latest}
use Rattle.zk_traffic.specs.Items.{items_at, items_at_end, items_of, items_so_far, own_items, segment_items}
use Rattle.zk_traffic.specs.Segments.{Segment, segment_at, segments}
use Rattle.zk_units.specs.Protocols.{protocol_at}
use Rattle.zk_units.specs.Units.{next_unit, units_freed}
use Rattle.zk_item_laws.specs.Own.{conversation_of, items_alone, own_segments}

-- a moment some milliseconds after the first
abbrev at : ℕ → Moment
at milliseconds = record { 0 = pos (1000 * milliseconds) }

abbrev options : Options
options = record { check = false; buffer = 2 ^ 20; packets = false }

-- an empty datagram of UDP from 10.0.0.A to 10.0.0.B, in a raw frame
abbrev datagram : ℕ → ℕ → ℕ → ℕ → ℕ → Captured
datagram milliseconds source destination sport dport = record {
  moment = at milliseconds;
  orig_len = 28;
  bytes = 0x45 ∷ 0 ∷ 0 ∷ 28 ∷ 0 ∷ 0 ∷ 0 ∷ 0 ∷ 64 ∷ 17 ∷ 0 ∷ 0 ∷ 10 ∷ 0 ∷ 0 ∷ source ∷ 10 ∷ 0 ∷ 0 ∷ destination ∷ []
      ++ 0 ∷ sport ∷ 0 ∷ dport ∷ 0 ∷ 8 ∷ 0 ∷ 0 ∷ [];
  link = LINKTYPE_RAW;
}

capture : List Captured
capture = datagram 0 1 80 99 9 ∷ datagram 10 2 80 99 9 ∷ datagram 20 80 1 9 99 ∷ datagram 61000 1 80 99 9 ∷ []

record Shown : Type 0 where
  moment : Moment
  word : List ℕ
  number : ℕ

abbrev shown_as : Moment → What → Shown
shown_as t (what.Opened conn known) = record { moment = t; word = codes "Opened"; number = conn.0 }
shown_as t (what.Removed conn known) = record { moment = t; word = codes "Removed"; number = conn.0 }
shown_as t other = record { moment = t; word = []; number = 0 }

abbrev shown : List Item → List Shown
shown items = map (λ (i : Item). shown_as i.moment i.what) items

-- its items
capture-items : shown (items_of options capture true)
    ≡ record { moment = at 0; word = codes "Opened"; number = 1 } ∷ record { moment = at 10; word = codes "Opened"; number = 2 }
    ∷ record { moment = at 60010; word = codes "Removed"; number = 2 } ∷ record { moment = at 60020; word = codes "Removed"; number = 1 }
    ∷ record { moment = at 61000; word = codes "Opened"; number = 3 } ∷ record { moment = at 61000; word = codes "Removed"; number = 3 } ∷ []
unfolding capture items_of items_so_far items_at items_at_end segments segment_at datagram_at fragments segment_items own_items latest begun instances with_segment freed_with datagram_units units_freed next_unit protocol_at udp.source_port udp.destination_port udp.length_field udp.checksum_field udp.udp_fault
capture-items = refl

-- the segments of the first
first-segments : map (λ (s : Segment). s.moment) (own_segments options.buffer 1 (segments options capture)) ≡ at 0 ∷ at 20 ∷ []
unfolding capture own_segments segments segment_at datagram_at fragments latest begun with_segment freed_with datagram_units units_freed next_unit protocol_at udp.source_port udp.destination_port udp.length_field udp.checksum_field udp.udp_fault
first-segments = refl

-- and what they give alone
first-alone : shown (items_alone options.buffer 1 (own_segments options.buffer 1 (segments options capture)) (at 61000))
    ≡ record { moment = at 0; word = codes "Opened"; number = 1 } ∷ record { moment = at 60020; word = codes "Removed"; number = 1 } ∷ []
unfolding capture own_segments items_alone conversation_of segments segment_at datagram_at fragments latest begun with_segment freed_with datagram_units units_freed next_unit protocol_at udp.source_port udp.destination_port udp.length_field udp.checksum_field udp.udp_fault
first-alone = refl
