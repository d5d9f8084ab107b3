use Rattle.std.specs.Vec.Iter.{into_iter_items}
use Rattle.zk_check_expressions.specs.Envs.{env_of}
use Rattle.zk_check_expressions.proofs.Fitting.{fit_turn, no_more_keys, no_more_values, no_more_written}
use Rattle.zk_check_expressions.proofs.Leftovers.{left_over}
use Rattle.zk_check_expressions.proofs.elements.fitted_keys.Goals as goal

pub loop-one-preserved : goal.loop-one-preserved
loop-one-preserved c = (
  left_over (into_iter_items c.loop-one.one-iterator) c.in-Some.one (into_iter_items c.next.new.self) _ _ c.in-Some.ensures.steps.0 c.in-Some.ensures.steps.1 c.loop-one.invariant.0,
  fit_turn (env_of c.args.env.now) c.expr_place.result c.loop-one.keys_left.now c.in-Some-Some.more_keys.now c.in-Some-Some.key.now
      c.loop-one.written_left.now c.in-Some-Some.more_written.now c.in-Some-Some.first.now (into_iter_items c.loop-one.one-iterator) (into_iter_items c.next.new.self) c.in-Some.one
      c.loop-one.all c.key_fits.result c.with_part-all.result _ c.in-Some-Some.ensures.cases.0 c.in-Some-Some.ensures'.cases.0 c.in-Some.ensures.steps.0 c.expr_place.ensures
      c.loop-one.invariant.1 c.key_fits.ensures c.with_part-all.ensures,
)

pub returns : goal.returns
returns c =
    no_more_values (env_of c.args.env.now) c.loop-one.keys_left.now c.loop-one.written_left.now (into_iter_items c.loop-one.one-iterator) _ c.loop-one.all _
    c.loop-one.invariant.0 c.in-None.ensures.steps.0 c.loop-one.invariant.1
