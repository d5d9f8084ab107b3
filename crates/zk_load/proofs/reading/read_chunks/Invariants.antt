use Rattle.std.proofs.Common.{◌+◌, ◌-◌, length}
use Rattle.zk_outcome.proofs.SoFar.{IsReadSoFar}
use Rattle.zk_load.proofs.reading.read_chunks.Given as goal

abbrev pub invariant-loop-shelf : goal.invariant-loop-shelf
invariant-loop-shelf g l = IsReadSoFar (g.S.Shelf.outside l.initial.shelf) l.bytes (g.S.Shelf.outside l.shelf)

-- each turn reads a byte at least
abbrev pub decreases-loop-shelf : goal.decreases-loop-shelf
decreases-loop-shelf g l = l.most + 1 - length l.bytes
