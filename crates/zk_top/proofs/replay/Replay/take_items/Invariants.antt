use Rattle.std.proofs.Common.{Bool, List}
use Rattle.zk_events.specs.Run.{Begun}
use Rattle.zk_base.specs.Captured.{Captured}
use Rattle.zk_traffic.specs.declared.item.Item.{Item}
use Rattle.zk_traffic.specs.Standing.{waiting}
use Rattle.zk_io.specs.Reading.{SameInput}
use Rattle.zk_top.specs.Replay.{Comes, Plan}
use Rattle.zk_top.specs.Sink.{Beginning, CanTake}
use Rattle.zk_top.proofs.replay.Replay.take_items.Given as goal

-- the items so far were played
abbrev pub invariant-items : goal.invariant-items
invariant-items g l = record {
  comes : (first : Beginning) (plan : Plan) (packets : List Captured) (given : List Item) (ended : Bool) → Comes first plan packets given ended (Begun given) l.initial.self (g.S.Shelf.outside l.initial.shelf)
      → (more : List Item) × Comes first plan packets more ended (Begun more) l.self (g.S.Shelf.outside l.shelf);
  ready : CanTake l.self.player.sink (g.S.Shelf.outside l.shelf);
  input : SameInput (g.S.Shelf.outside l.initial.shelf) (g.S.Shelf.outside l.shelf);
}

-- each turn takes one that waits
abbrev pub decreases-items : goal.decreases-items
decreases-items g l = waiting l.self.traffic
