use Rattle.std.proofs.Common.{◌≡◌, true, false, sym, ap, subst, ◌∙◌}
use Rattle.zk_machine.specs.declared.due.Due as rust
use Rattle.zk_typed.specs.Running.{one_turn, turns}
use Rattle.zk_events.specs.declared.dispatcher.Flow.{Flow}
use Rattle.zk_events.specs.Flowing.{FlowsTo, is_due, time_at}
use Rattle.zk_events.proofs.RunLemmas.{IsTurning, next_of, none_next, told_of, turning-floods, turning-goes, turning-none, turning-over}
use Rattle.zk_events.proofs.dispatcher.Dispatcher.take_turns.Goals as goal

pub loop-due-preserved : goal.loop-due-preserved
loop-due-preserved c = record {
  takes = λ program given world stands.
      let far = c.loop-due.invariant.takes program given world stands in
      let budget = c.loop-due.self.budget in
      let until = c.args.until in
      let next = next_of program far.world c.in-Some.due (c.in-Some.ensures.next program given far.world far.stands) in
      let told = told_of program far.world c.in-Some.due next.0 next.1 next.2 (λ at event is. c.in-Some.ensures.event program given far.world at event far.stands is) in
      let at = ap (λ (d : rust.Due). d.at) next.2 in
      let due : is_due until next.0.at ≡ true = sym (c.if-not-includes.ensures ∙ ap (is_due until) at) in
      let flows = subst (λ (f : Flow). FlowsTo f c.turn.new.self program given (one_turn program budget (time_at until) far.world next.0 c.loop-due.self.left)) c.in-Goes.is
      (c.in_ok-turn.ensures.flows program given far.world next.0 far.stands at told) in
      record {
        world = flows.world;
        stands = flows.stands;
        turning = subst (λ b. IsTurning program b (time_at until) (λ one. is_due until one.at) flows.world c.turn.new.self.left (turns program c.args.self.now.budget (time_at until) (λ one. is_due until one.at) world c.args.self.now.left)) (sym c.turn.ensures.budget) (turning-goes program budget (time_at until) (λ one. is_due until one.at) far.world c.loop-due.self.left _ next.0 flows.world c.turn.new.self.left far.turning next.1 due flows.comes
            (c.in_ok-turn.ensures.fewer c.in-Goes.is));
      };
  budget = c.turn.ensures.budget ∙ c.loop-due.invariant.budget;
}

pub returns-in-Floods-clause-flows : goal.returns-in-Floods-clause-flows
returns-in-Floods-clause-flows c = λ program given world stands.
    let far = c.loop-due.invariant.takes program given world stands in
    let budget = c.loop-due.self.budget in
    let until = c.args.until in
    let next = next_of program far.world c.in-Some.due (c.in-Some.ensures.next program given far.world far.stands) in
    let told = told_of program far.world c.in-Some.due next.0 next.1 next.2 (λ at event is. c.in-Some.ensures.event program given far.world at event far.stands is) in
    let at = ap (λ (d : rust.Due). d.at) next.2 in
    let due : is_due until next.0.at ≡ true = sym (c.if-not-includes.ensures ∙ ap (is_due until) at) in
    let flooded = subst (λ (f : Flow). FlowsTo f c.turn.new.self program given (one_turn program budget (time_at until) far.world next.0 c.loop-due.self.left)) c.in-Floods.is
    (c.in_ok-turn.ensures.flows program given far.world next.0 far.stands at told) in
    record {
      world = flooded.world;
      waiting = flooded.waiting;
      comes = turning-floods program budget (time_at until) (λ one. is_due until one.at) far.world c.loop-due.self.left _ next.0 flooded.world far.turning next.1 due flooded.comes;
      stands = flooded.stands;
    }

pub returns-then-not-includes-clause-flows : goal.returns-then-not-includes-clause-flows
returns-then-not-includes-clause-flows c = λ program given world stands.
    let far = c.loop-due.invariant.takes program given world stands in
    let until = c.args.until in
    let next = next_of program far.world c.in-Some.due (c.in-Some.ensures.next program given far.world far.stands) in
    let at = ap (λ (d : rust.Due). d.at) next.2 in
    let over : is_due until next.0.at ≡ false = sym (c.if-not-includes.ensures ∙ ap (is_due until) at) in
    record {
      world = far.world;
      comes = turning-over program c.loop-due.self.budget (time_at until) (λ one. is_due until one.at) far.world c.loop-due.self.left _ next.0 far.turning next.1 over;
      stands = far.stands;
    }

pub returns-in_default-clause-flows : goal.returns-in_default-clause-flows
returns-in_default-clause-flows c = λ program given world stands.
    let far = c.loop-due.invariant.takes program given world stands in
    let none = none_next program far.world (c.in_default.ensures.next program given far.world far.stands) in
    record {
      world = far.world;
      comes = turning-none program c.loop-due.self.budget (time_at c.args.until) (λ one. is_due c.args.until one.at) far.world c.loop-due.self.left _ far.turning none;
      stands = far.stands;
    }
