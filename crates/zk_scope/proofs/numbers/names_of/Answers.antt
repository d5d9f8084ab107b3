use Rattle.std.proofs.Common.{subst, take}
use Rattle.std.specs.Str.{bytes_eq}
use Rattle.zk_scope.specs.Lent.{declared_lent, declared_of}
use Rattle.zk_scope.specs.Numbering.{Stands, names_of, own_name}
use Rattle.zk_scope.proofs.PlaceLaws.{one_more_item}
use Rattle.zk_scope.proofs.numbers.names_of.Goals as goal

pub loop-one-preserved : goal.loop-one-preserved
loop-one-preserved c =
    subst (Stands bytes_eq c.add_name.new.found) (one_more_item declared_of (own_name c.args.kind) c.args.names.now c.loop-one.one-index c.one-item.result c.loop-one-test.true c.one-item.is)
    (c.in_ok-add_name.ensures (names_of c.args.kind (declared_lent (take c.loop-one.one-index c.args.names.now))) c.loop-one.invariant)
