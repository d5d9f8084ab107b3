use Rattle.std.proofs.Common.{ℕ, ◌<◌, ◌≤◌, length}
use Rattle.zk_table.specs.Index.{IsNode}
use Rattle.zk_table.proofs.index.rebuild.Given as goal

abbrev pub invariant-loop-place : goal.invariant-loop-place
invariant-loop-place g l =
    (l.place ≤ length l.firsts)
    × ((place : ℕ) → l.place ≤ place → place < length l.firsts → IsNode (g.P.Places.turns l.places) l.firsts place)

abbrev pub decreases-loop-place : goal.decreases-loop-place
decreases-loop-place g l = l.place
