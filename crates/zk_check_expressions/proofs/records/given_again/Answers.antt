use Rattle.std.proofs.Common.{drop, ◌+◌, ◌∷◌, sym, refl}
use Rattle.zk_check_expressions.specs.Envs.{env_of}
use Rattle.zk_check_expressions.proofs.Leftovers.{none_over}
use Rattle.zk_check_expressions.proofs.Matching.{front_of, none_left}
use Rattle.zk_check_expressions.proofs.Once.{again_turn, again_end, again_all}
use Rattle.zk_check_expressions.proofs.records.given_again.Goals as goal

pub loop-item-preserved : goal.loop-item-preserved
loop-item-preserved c =
    let before = c.loop-item.invariant.0 in
    let marks = c.in_ok-new-in-Some.ensures before c.loop-item.invariant.1 in (
      c.in-Some.one.now.number ∷ before,
      marks.1,
      again_turn (env_of c.args.env.now) c.loop-item.rules c.tell_again.new.rules before c.in_ok-new-in-Some.new c.item_place.result c.item-item.result (drop (c.loop-item.item-index + 1) c.args.items.now) _
          c.in-Some.one.now c.loop-item.others.now c.in-Some.rest.now _ (front_of c.args.items.now c.loop-item.item-index c.item-item.result c.loop-item-test.true c.item-item.is)
          c.in-Some.ensures.cases.0 c.item_place.ensures marks.0 c.in_ok-tell_again-in-Some.ensures c.loop-item.invariant.2,
    )

pub returns-in-None : goal.returns-in-None
returns-in-None c = again_end (env_of c.args.env.now) c.loop-item.rules _ _ c.loop-item.others.now _ (none_over c.loop-item.others.now 0 (sym c.in-None.ensures.cases) refl) c.loop-item.invariant.2

pub returns : goal.returns
returns c = again_all (env_of c.args.env.now) c.loop-item.rules _ _ c.loop-item.others.now _ (none_left c.args.items.now c.loop-item.item-index c.loop-item-test.false) c.loop-item.invariant.2
