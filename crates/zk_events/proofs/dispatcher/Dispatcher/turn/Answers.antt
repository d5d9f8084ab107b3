use Rattle.std.proofs.Common.{◌≡◌, ◌+◌, ◌-◌, ap, ◌∙◌, arith}
use Rattle.std.proofs.lemmas.Result.{IfOk-weaker}
use Rattle.zk_typed.specs.Running.{one_turn}
use Rattle.zk_events.specs.Flowing.{time_at}
use Rattle.zk_events.proofs.EngineLemmas.{along}
use Rattle.zk_events.proofs.RunLemmas.{drained-along, turn-more}
use Rattle.zk_events.proofs.dispatcher.Dispatcher.turn.Goals as goal

pub returns-then-self-eq0-clause-flows : goal.returns-then-self-eq0-clause-flows
returns-then-self-eq0-clause-flows c = λ program given world one stands at told. record {
  world = world;
  waiting = world.queue;
  comes = ap (one_turn program c.args.self.now.budget (time_at c.args.until) world one) c.if-self-eq0.true;
  stands = stands;
}

pub returns-clause-flows : goal.returns-clause-flows
returns-clause-flows c = IfOk-weaker c.drain.result _ _ (λ flow flows program given world one stands at told.
    let happened = c.in_ok-happen.ensures.stands program given world one.what stands told in
    let left = c.args.self.now.left in
    let some : left ≡ left - 1 + 1 = omega (arith, c.if-self-eq0.false) in
    let now = c.time_at.ensures ∙ ap (time_at c.args.until) at in
    along flow _ program given _ _
    (drained-along program c.happen.new.self.budget c.args.self.now.budget c.happen.new.self.left (left - 1) _ _ c.happen.ensures.budget c.happen.ensures.left
    (turn-more program c.args.self.now.budget c.args.until world one left (left - 1) c.time_at.result some now))
    (flows program given _ happened)) c.drain.ensures.flows
