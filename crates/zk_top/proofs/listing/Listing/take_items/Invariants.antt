use Rattle.std.proofs.Common.{ℕ, Bool, List}
use Rattle.zk_base.specs.Shelf.{Outside}
use Rattle.zk_base.specs.Captured.{Captured}
use Rattle.zk_top.specs.Listing.{HasListed}
use Rattle.zk_io.specs.Reading.{SameInput}
use Rattle.zk_traffic.specs.declared.item.Item.{Item}
use Rattle.zk_traffic.specs.Standing.{waiting}
use Rattle.zk_top.proofs.listing.Listing.take_items.Given as goal

-- the items so far are listed
abbrev pub invariant-items : goal.invariant-items
invariant-items g l = record {
  listed : (first : Outside) (packets : List Captured) (given : List Item) (ended : Bool) → HasListed first packets given ended l.initial.self (g.S.Shelf.outside l.initial.shelf)
      → (more : List Item) × HasListed first packets more ended l.self (g.S.Shelf.outside l.shelf);
  input : SameInput (g.S.Shelf.outside l.initial.shelf) (g.S.Shelf.outside l.shelf);
}

-- each turn takes one that waits
abbrev pub decreases-items : goal.decreases-items
decreases-items g l = waiting l.self.traffic
