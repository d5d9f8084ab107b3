use Rattle.std.specs.Vec.Iter.{into_iter_items}
use Rattle.zk_check_expressions.specs.Envs.{env_of}
use Rattle.zk_check_expressions.proofs.Leftovers.{left_over}
use Rattle.zk_check_expressions.proofs.Once.{givens_turn, givens_end}
use Rattle.zk_check_expressions.proofs.records.givens.Goals as goal

pub loop-one-preserved : goal.loop-one-preserved
loop-one-preserved c = (
  left_over (into_iter_items c.loop-one.one-iterator) c.in-Some.one (into_iter_items c.next.new.self) _ _ c.in-Some.ensures.steps.0 c.in-Some.ensures.steps.1 c.loop-one.invariant.0,
  givens_turn (env_of c.args.env.now) c.loop-one.all c.push.new.self c.in_ok-made.made c.in-Some.one (into_iter_items c.loop-one.one-iterator) (into_iter_items c.next.new.self) _
      c.in-Some.ensures.steps.0 c.in_ok-made.ensures c.in_ok-push.ensures.ok c.loop-one.invariant.1,
)

pub returns : goal.returns
returns c =
    givens_end (env_of c.args.env.now) c.loop-one.all (into_iter_items c.loop-one.one-iterator) _ _ c.loop-one.invariant.0 c.in-None.ensures.steps.0 c.loop-one.invariant.1
