use Rattle.std.specs.Vec.Iter.{into_iter_items}
use Rattle.zk_check_expressions.proofs.Leftovers.{left_over}
use Rattle.zk_check_expressions.proofs.MemberLaws.{joined_turn, joined_end}
use Rattle.zk_check_expressions.proofs.members.joined.Goals as goal

pub loop-one-preserved : goal.loop-one-preserved
loop-one-preserved c = (
  left_over (into_iter_items c.loop-one.one-iterator) c.in-Some.one (into_iter_items c.next.new.self) _ _ c.in-Some.ensures.steps.0 c.in-Some.ensures.steps.1 c.loop-one.invariant.0,
  joined_turn c.loop-one.all.items c.append.new.self.items c.in-Some.one (into_iter_items c.loop-one.one-iterator) (into_iter_items c.next.new.self) _
      c.in-Some.ensures.steps.0 c.in_ok-append.ensures.items c.loop-one.invariant.1,
)

pub returns : goal.returns
returns c =
    joined_end c.loop-one.all.items (into_iter_items c.loop-one.one-iterator) _ _ c.loop-one.invariant.0 c.in-None.ensures.steps.0 c.loop-one.invariant.1
