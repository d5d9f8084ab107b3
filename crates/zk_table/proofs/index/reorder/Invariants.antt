use Rattle.std.proofs.Common.{◌<◌, length}
use Rattle.zk_table.specs.Index.{AllBut}
use Rattle.zk_table.proofs.index.reorder.Given as goal

abbrev pub invariant-up : goal.invariant-up
invariant-up g l =
    (l.at < length l.firsts)
    × (AllBut (g.P.Places.turns l.places) l.initial.firsts l.place → AllBut (g.P.Places.turns l.places) l.firsts l.at)

abbrev pub decreases-up : goal.decreases-up
decreases-up g l = l.at
