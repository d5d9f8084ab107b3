use Rattle.std.proofs.Common.{ap, sym, ◌∙◌}
use Rattle.std.specs.Option.{option_map}
use Rattle.std.specs.Vec.Iter.{into_iter_items, into_iter_len}
use Rattle.zk_check_operators.specs.Views.{typed_of}
use Rattle.zk_check_expressions.proofs.KeyLaws.{keys_turn, key_alone}
use Rattle.zk_check_expressions.proofs.Leftovers.{left_over}
use Rattle.zk_check_expressions.proofs.membership.as_keys.Goals as goal

pub loop-one-preserved : goal.loop-one-preserved
loop-one-preserved c = (
  left_over (into_iter_items c.loop-one.one-iterator) c.in-Some.one (into_iter_items c.next.new.self) _ _ c.in-Some.ensures.steps.0 c.in-Some.ensures.steps.1 c.loop-one.invariant.0,
  keys_turn c.loop-one.others.now c.in-Some-split_first.rest.now c.in-Some-split_first.key.now (into_iter_items c.loop-one.one-iterator) (into_iter_items c.next.new.self) c.in-Some.one c.in-Some-2.fit
      c.loop-one.fitting.items c.push.new.self.items _ c.in-Some-split_first.ensures.cases.0 c.in-Some.ensures.steps.0 (ap (option_map typed_of) (sym c.in-Some-2.is) ∙ c.in_ok-fits-in-Some-split_first.ensures) c.in_ok-push-in-Some-2.ensures.items c.loop-one.invariant.1,
)

pub returns-in-Some-split_first-2 : goal.returns-in-Some-split_first-2
returns-in-Some-split_first-2 c =
    key_alone c.loop-one.others.now _ _ (into_iter_items c.loop-one.one-iterator) c.loop-one.fitting.items _ _
    c.in-Some-split_first-2.ensures.cases.0 c.loop-one.invariant.0 c.in-None.ensures.steps.0 c.loop-one.invariant.1
