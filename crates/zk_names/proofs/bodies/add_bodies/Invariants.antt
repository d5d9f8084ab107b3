use Rattle.std.proofs.Common.{◌≡◌, drop, fold}
use Rattle.zk_scope.specs.Lent.{declared_lent, stated_lent}
use Rattle.zk_names.specs.Words.{with_body}
use Rattle.zk_names.proofs.bodies.add_bodies.Given as goal

abbrev pub invariant-loop-one : goal.invariant-loop-one
invariant-loop-one l =
    fold (with_body l.round) (declared_lent l.table.names.items) (stated_lent (drop l.one-index l.stated)) ≡ fold (with_body l.round) (declared_lent l.fn.table.names.items) (stated_lent l.stated)
