use Rattle.std.proofs.Common.{ap, sym, subst, ◌∙◌}
use Rattle.std.proofs.lemmas.Result.{IfOk-weaker}
use Rattle.zk_typed.specs.Running.{turns}
use Rattle.zk_events.specs.declared.dispatcher.Flow.{Flow}
use Rattle.zk_events.specs.Flowing.{FlowsTo}
use Rattle.zk_events.specs.Holding.{known_in}
use Rattle.zk_events.specs.Run.{is_due_by}
use Rattle.zk_events.proofs.EngineLemmas.{comes-from, item-floods, item-goes, item-known}
use Rattle.zk_events.proofs.engine.Engine.take.Goals as goal

pub returns-in-Goes-clause-comes : goal.returns-in-Goes-clause-comes
returns-in-Goes-clause-comes c = IfOk-weaker c.take_item.result _ _ (λ flow came program given so_far from known.
    let budget = c.args.self.now.dispatcher.budget in
    let item = c.args.item.now in
    let here = known_in c.args.self.now.connections in
    let turned = subst (λ (f : Flow). FlowsTo f c.take_turns.new.self program given (turns program budget (λ at. at) (is_due_by item.moment) from.world c.dispatches_max-self.result)) c.in-Goes.is
    (c.in_ok-flow.ensures.flows program given from.world from.stands) in
    let goes = ap (λ n. turns program budget (λ at. at) (is_due_by item.moment) from.world n) (sym c.dispatches_max-self.ensures) ∙ turned.comes in
    let done = came program given turned.world turned.stands in
    comes-from flow _ program given _ _
    (item-goes program budget c.take_turns.new.self.budget so_far item here from.world turned.world _ _ c.take_turns.ensures.budget from.comes known goes)
    (done.1 ∙ item-known program budget so_far item here from.world turned.world _ _ from.comes known goes) done.0) c.take_item.ensures.comes

pub returns-in-Floods-clause-comes : goal.returns-in-Floods-clause-comes
returns-in-Floods-clause-comes c = λ program given so_far from known.
    let budget = c.args.self.now.dispatcher.budget in
    let item = c.args.item.now in
    let flooded = subst (λ (f : Flow). FlowsTo f c.take_turns.new.self program given (turns program budget (λ at. at) (is_due_by item.moment) from.world c.dispatches_max-self.result)) c.in-Floods.is
    (c.in_ok-flow.ensures.flows program given from.world from.stands) in
    let floods = ap (λ n. turns program budget (λ at. at) (is_due_by item.moment) from.world n) (sym c.dispatches_max-self.ensures) ∙ flooded.comes in
    record {
      world = flooded.world;
      waiting = flooded.waiting;
      comes = sym (item-floods program budget so_far item from.world flooded.world _ from.comes floods);
      stands = flooded.stands;
    }
