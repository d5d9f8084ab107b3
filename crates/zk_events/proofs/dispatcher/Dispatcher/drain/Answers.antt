use Rattle.std.proofs.Common.{◌≡◌, ◌+◌, ◌-◌, drop, sym, ◌∙◌, arith}
use Rattle.zk_machine.specs.Queued.{queued_of}
use Rattle.zk_typed.specs.Dispatch.{dispatch}
use Rattle.zk_typed.specs.State.{with_queue}
use Rattle.zk_events.proofs.RunLemmas.{drained-along, drained-more, drained-none}
use Rattle.zk_events.proofs.dispatcher.Dispatcher.drain.Goals as goal

pub loop-event-preserved : goal.loop-event-preserved
loop-event-preserved c = record {
  draining = λ program given world stands.
      let far = c.loop-event.invariant.draining program given world stands in
      let taken = c.in-Some.ensures.some program given far.world far.stands in
      let left = c.loop-event.self.left in
      let some : left ≡ left - 1 + 1 = omega (arith, c.if-self-eq0.false) in
      let after = dispatch program c.loop-event.self.budget (with_queue (drop 1 far.world.queue) far.world) (queued_of c.in-Some.event) in
      record {
        world = after;
        stands = c.in_ok-dispatch.ensures.stands program given _ taken.1;
        same = drained-along program c.dispatch.new.self.budget c.loop-event.self.budget c.dispatch.new.self.left (left - 1) after _ c.dispatch.ensures.budget c.dispatch.ensures.left
            (sym (drained-more program c.loop-event.self.budget left (left - 1) far.world (queued_of c.in-Some.event) (drop 1 far.world.queue) some taken.0) ∙ far.same);
      };
  budget = c.dispatch.ensures.budget ∙ c.loop-event.invariant.budget;
  fewer = omega (arith, c.dispatch.ensures.left, c.loop-event.invariant.fewer);
}

pub returns-clause-flows : goal.returns-clause-flows
returns-clause-flows c = λ program given world stands.
    let far = c.loop-event.invariant.draining program given world stands in
    let none = c.in_default.ensures.none program given far.world far.stands in
    record {
      world = far.world;
      comes = sym far.same ∙ drained-none program c.loop-event.self.budget c.loop-event.self.left far.world none.0;
      stands = none.1;
    }
