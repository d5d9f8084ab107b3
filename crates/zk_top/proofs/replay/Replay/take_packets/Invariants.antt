use Rattle.std.proofs.Common.{◌≡◌, ◌-◌, ◌^◌, ℕ, List, [], false, Option}
use Rattle.zk_base.specs.Captured.{Captured}
use Rattle.zk_base.specs.NetworkTime.{now as network_time}
use Rattle.zk_io.specs.Reading.{IsReading, IsUnderWay, next_place}
use Rattle.zk_top.specs.Replay.{HasPlayed, Plan}
use Rattle.zk_top.specs.Sink.{Beginning, CanTake}
use Rattle.zk_top.proofs.replay.Replay.take_packets.Given as goal

-- the packets so far were played
abbrev pub invariant-packets : goal.invariant-packets
invariant-packets g l = record {
  under_way : IsUnderWay l.reader (g.S.Shelf.outside l.shelf);
  ready : CanTake l.self.player.sink (g.S.Shelf.outside l.shelf);
  goes_on : (whole : Option (List ℕ)) (bytes : List ℕ) → IsReading whole bytes [] l.initial.reader (g.S.Shelf.outside l.initial.shelf)
      → (longer : List ℕ) × (packets : List Captured) × IsReading whole longer packets l.reader (g.S.Shelf.outside l.shelf)
      × (l.last ≡ network_time packets)
      × ((first : Beginning) (plan : Plan) → HasPlayed first plan [] false l.initial.self (g.S.Shelf.outside l.initial.shelf) → HasPlayed first plan packets false l.self (g.S.Shelf.outside l.shelf));
}

-- each turn goes behind a packet
abbrev pub decreases-packets : goal.decreases-packets
decreases-packets g l = 2 ^ 41 - next_place l.reader
