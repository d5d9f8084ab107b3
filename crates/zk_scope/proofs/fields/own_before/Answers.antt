use Rattle.std.proofs.Common.{arith}
use Rattle.zk_scope.specs.Scripted.{scripts_in}
use Rattle.zk_scope.proofs.FieldPlaceLaws.{first_own, more_own}
use Rattle.zk_scope.proofs.fields.own_before.Goals as goal

pub loop-number-init : goal.loop-number-init
loop-number-init c = first_own (scripts_in c.args.names.now) c.new-all.result.items c.new-all.ensures.items

pub loop-number-preserved : goal.loop-number-preserved
loop-number-preserved c =
    more_own (scripts_in c.args.names.now) c.loop-number.all.items c.push.new.self.items c.in_ok-one.one c.loop-number.number c.loop-number.invariant c.in_ok-one.ensures c.in_ok-push.ensures.items

pub returns : goal.returns
returns c = (omega arith, c.loop-number.invariant.1)
