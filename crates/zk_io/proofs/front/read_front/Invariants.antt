use Rattle.std.proofs.Common.{◌+◌, ◌-◌, ◌≤◌, length}
use Rattle.zk_outcome.proofs.SoFar.{IsReadSoFar}
use Rattle.zk_io.specs.Reading.{IsJustRead}
use Rattle.zk_io.proofs.front.read_front.Given as goal

abbrev pub invariant-loop-shelf : goal.invariant-loop-shelf
invariant-loop-shelf g l = record {
  far : IsReadSoFar (g.S.Shelf.outside l.initial.shelf) l.front (g.S.Shelf.outside l.shelf);
  soon : IsJustRead (length l.chunk) l.front;
  short : length l.front ≤ 23 + length l.chunk;
}

-- while bytes of the header are missing, each turn reads one at least
abbrev pub decreases-loop-shelf : goal.decreases-loop-shelf
decreases-loop-shelf g l = 24 - length l.front
