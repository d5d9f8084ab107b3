use Rattle.std.proofs.Common.{drop}
use Rattle.zk_scope.specs.Streams.{AreTypes, created_lent}
use Rattle.zk_scope.proofs.log_types.LogTypes.of.Given as goal

abbrev pub invariant-loop-index : goal.invariant-loop-index
invariant-loop-index l = AreTypes l.types (created_lent (drop l.index l.created))
