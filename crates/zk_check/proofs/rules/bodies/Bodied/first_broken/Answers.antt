use Rattle.std.proofs.Common.{List, take, subst}
use Rattle.zk_typed.specs.LoadOrder.{Stated}
use Rattle.zk_scope.specs.Lent.{stated_lent}
use Rattle.zk_scope.specs.Scripted.{scripts_in}
use Rattle.zk_check.specs.Earlier.{IsEarlier}
use Rattle.zk_check.proofs.ListingLaws.{errors_found, errors_on, stated_more}
use Rattle.zk_check.proofs.rules.bodies.Bodied.first_broken.Goals as goal

pub returns-in-Some : goal.returns-in-Some
returns-in-Some c = λ begun.
    errors_found (scripts_in c.args.self.now.valued.ground.names.now) c.args.stated.now c.loop-one.one-index c.one-item.result c.in_ok-first.field-0 _ c.in-Some.first c.loop-one-test.true c.one-item.is
    (c.in_ok-first.ensures.first (stated_lent (take c.loop-one.one-index c.args.stated.now)) (c.loop-one.invariant begun).0) c.in-Some.is (c.loop-one.invariant begun).1

pub loop-one-preserved : goal.loop-one-preserved
loop-one-preserved c = λ begun.
    let scripts = scripts_in c.args.self.now.valued.ground.names.now in
    let before = stated_lent (take c.loop-one.one-index c.args.stated.now) in (
      subst (λ (stated : List Stated). IsEarlier c.judge.new.earlier scripts stated) (stated_more c.args.stated.now c.loop-one.one-index c.one-item.result c.loop-one-test.true c.one-item.is)
          (c.in_ok-first.ensures.later before (c.loop-one.invariant begun).0),
      errors_on scripts c.args.stated.now c.loop-one.one-index c.one-item.result c.in_ok-first.field-0 _ c.loop-one-test.true c.one-item.is
          (c.in_ok-first.ensures.first before (c.loop-one.invariant begun).0) c.in-None.is (c.loop-one.invariant begun).1,
    )
