use Rattle.std.proofs.Common.{take}
use Rattle.zk_scope.specs.Lent.{nodes_lent}
use Rattle.zk_scope.specs.Numbering.{Stands, spot_eq, spots}
use Rattle.zk_scope.proofs.numbers.spots.Given as goal

abbrev pub invariant-loop-node : goal.invariant-loop-node
invariant-loop-node l = Stands spot_eq l.found (spots l.records (nodes_lent (take l.node-index l.nodes)))
