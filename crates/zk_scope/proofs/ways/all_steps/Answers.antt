use Rattle.std.proofs.Common.{arith}
use Rattle.zk_scope.specs.Lent.{declared_lent}
use Rattle.zk_scope.proofs.WayLaws.{first_steps, more_steps, whole_steps}
use Rattle.zk_scope.proofs.ways.all_steps.Goals as goal

pub loop-place-init : goal.loop-place-init
loop-place-init c = first_steps (declared_lent c.args.table.now.names.items) c.new-all.result.items c.new-all.ensures.items

pub loop-place-preserved : goal.loop-place-preserved
loop-place-preserved c =
    more_steps (declared_lent c.args.table.now.names.items) c.loop-place.all.items c.push.new.self.items c.in_ok-more.more c.loop-place.place c.loop-place.invariant c.in_ok-more.ensures c.in_ok-push.ensures.items

pub returns : goal.returns
returns c = whole_steps c.args.table.now.names.items c.loop-place.all.items (omega arith) c.loop-place.invariant.1
