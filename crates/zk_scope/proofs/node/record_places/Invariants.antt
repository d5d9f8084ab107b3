use Rattle.std.proofs.Common.{◌≡◌, take}
use Rattle.zk_typed.specs.Names.{is_record}
use Rattle.zk_scope.specs.Indexing.{passing}
use Rattle.zk_scope.specs.Lent.{nodes_lent}
use Rattle.zk_scope.proofs.node.record_places.Given as goal

abbrev pub invariant-loop-place : goal.invariant-loop-place
invariant-loop-place l = l.places.items ≡ passing is_record (nodes_lent (take l.place l.nodes))
