use Rattle.std.proofs.Common.{arith}
use Rattle.zk_scope.specs.Lent.{declared_lent}
use Rattle.zk_scope.proofs.CircleLaws.{first_seen, more_seen, whole_circles}
use Rattle.zk_scope.proofs.circles.all_circles.Goals as goal

pub loop-place-init : goal.loop-place-init
loop-place-init c = first_seen (declared_lent c.args.table.now.names.items) c.new-all.result.items c.new-all.ensures.items

pub loop-place-preserved : goal.loop-place-preserved
loop-place-preserved c =
    more_seen (declared_lent c.args.table.now.names.items) c.loop-place.all.items c.push.new.self.items c.in_ok-found.found c.loop-place.place c.loop-place.invariant c.in_ok-found.ensures c.in_ok-push.ensures.items

pub returns : goal.returns
returns c = whole_circles c.args.table.now.names.items c.loop-place.all.items (omega arith) c.loop-place.invariant.1
