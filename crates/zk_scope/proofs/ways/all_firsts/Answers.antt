use Rattle.zk_scope.specs.Lent.{declared_lent}
use Rattle.zk_scope.proofs.WayLaws.{first_firsts, more_firsts}
use Rattle.zk_scope.proofs.ways.all_firsts.Goals as goal

pub loop-place-init : goal.loop-place-init
loop-place-init c = first_firsts (declared_lent c.args.table.now.names.items) c.new-all.result.items c.new-all.ensures.items

pub loop-place-preserved : goal.loop-place-preserved
loop-place-preserved c =
    more_firsts (declared_lent c.args.table.now.names.items) c.loop-place.all.items c.push.new.self.items c.in_ok-first.first c.loop-place.place c.loop-place.invariant c.in_ok-first.ensures c.in_ok-push.ensures.items

pub returns : goal.returns
returns c = c.loop-place.invariant.1
