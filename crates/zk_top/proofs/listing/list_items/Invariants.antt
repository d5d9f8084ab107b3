use Rattle.std.proofs.Common.{◌-◌, ◌^◌, ℕ, List, [], Option}
use Rattle.zk_base.specs.Captured.{Captured}
use Rattle.zk_top.specs.Listing.{HasListedAll}
use Rattle.zk_io.specs.Reading.{IsReading, IsUnderWay, next_place}
use Rattle.zk_top.proofs.listing.list_items.Given as goal

-- the packets so far are listed
abbrev pub invariant-packets : goal.invariant-packets
invariant-packets g l = record {
  under_way : IsUnderWay l.reader (g.S.Shelf.outside l.shelf);
  goes_on : (whole : Option (List ℕ)) (bytes : List ℕ) → IsReading whole bytes [] l.initial.reader (g.S.Shelf.outside l.initial.shelf)
      → (longer : List ℕ) × (packets : List Captured) × IsReading whole longer packets l.reader (g.S.Shelf.outside l.shelf)
      × HasListedAll (g.S.Shelf.outside l.initial.shelf) packets l.listing (g.S.Shelf.outside l.shelf);
}

-- the bytes that count and aren't passed become fewer
abbrev pub decreases-packets : goal.decreases-packets
decreases-packets g l = 2 ^ 41 - next_place l.reader
