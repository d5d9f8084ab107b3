use Rattle.std.proofs.Common.{ℕ}
use Rattle.zk_events.specs.Run.{Stage}
use Rattle.zk_events.specs.Standing.{waiting}
use Rattle.zk_lower.specs.Told.{Told}
use Rattle.zk_typed.specs.Program.{Program}
use Rattle.zk_io.specs.Reading.{SameInput}
use Rattle.zk_top.specs.Replay.{Gives}
use Rattle.zk_top.specs.Sink.{Beginning, CanTake}
use Rattle.zk_top.proofs.player.Player.give_all.Given as goal

-- the lines and rows so far were given
abbrev pub invariant-outs : goal.invariant-outs
invariant-outs g l = record {
  gives : (first : Beginning) (program : Program) (budget : ℕ) (stage : Stage) (told : Told) → Gives first program budget stage told l.initial.self (g.S.Shelf.outside l.initial.shelf)
      → (more : Told) × Gives first program budget stage more l.self (g.S.Shelf.outside l.shelf);
  ready : CanTake l.self.sink (g.S.Shelf.outside l.shelf);
  input : SameInput (g.S.Shelf.outside l.initial.shelf) (g.S.Shelf.outside l.shelf);
}

-- each turn takes one
abbrev pub decreases-outs : goal.decreases-outs
decreases-outs g l = waiting l.self.engine
