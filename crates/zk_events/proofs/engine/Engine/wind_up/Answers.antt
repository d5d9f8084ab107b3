use Rattle.std.proofs.Common.{true, sym, subst}
use Rattle.std.proofs.lemmas.Result.{IfOk-weaker}
use Rattle.zk_typed.specs.Running.{turns}
use Rattle.zk_typed.specs.State.{ending_at}
use Rattle.zk_events.specs.declared.dispatcher.Flow.{Flow}
use Rattle.zk_events.specs.Flowing.{FlowsTo}
use Rattle.zk_events.proofs.EngineLemmas.{along, end-floods, end-goes}
use Rattle.zk_events.proofs.engine.Engine.wind_up.Goals as goal

pub returns-in-Goes-clause-flows : goal.returns-in-Goes-clause-flows
returns-in-Goes-clause-flows c = IfOk-weaker c.take_done.result _ _ (λ flow flows program given world stands.
    let budget = c.args.self.now.dispatcher.budget in
    let left = c.args.self.now.dispatcher.left in
    let last = c.args.last in
    let wound = c.wind_up.ensures program given _ (c.set_time.ensures program given world stands) in
    let turned = subst (λ (f : Flow). FlowsTo f c.take_turns.new.self program given (turns program budget (λ at. last) (λ one. true) (ending_at last world) left)) c.in-Goes.is
    (c.in_ok-flow.ensures.flows program given _ wound) in
    along flow _ program given _ _
    (end-goes program budget c.take_turns.new.self.budget last world turned.world left _ c.take_turns.ensures.budget turned.comes)
    (flows program given turned.world turned.stands)) c.take_done.ensures.flows

pub returns-in-Floods-clause-flows : goal.returns-in-Floods-clause-flows
returns-in-Floods-clause-flows c = λ program given world stands.
    let budget = c.args.self.now.dispatcher.budget in
    let left = c.args.self.now.dispatcher.left in
    let last = c.args.last in
    let wound = c.wind_up.ensures program given _ (c.set_time.ensures program given world stands) in
    let flooded = subst (λ (f : Flow). FlowsTo f c.take_turns.new.self program given (turns program budget (λ at. last) (λ one. true) (ending_at last world) left)) c.in-Floods.is
    (c.in_ok-flow.ensures.flows program given _ wound) in
    record {
      world = flooded.world;
      waiting = flooded.waiting;
      comes = sym (end-floods program budget last world flooded.world left flooded.comes);
      stands = flooded.stands;
    }
