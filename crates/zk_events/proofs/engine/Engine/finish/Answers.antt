use Rattle.std.proofs.Common.{ap, ◌∙◌}
use Rattle.zk_typed.specs.Running.{finish}
use Rattle.zk_events.specs.Holding.{known_in}
use Rattle.zk_events.specs.Run.{Ended, so_far, so_far_at}
use Rattle.zk_events.proofs.EngineLemmas.{comes-from, goes-on, run-goes, run-stays, stays-so, told-again}
use Rattle.zk_events.proofs.engine.Engine.finish.Goals as goal

pub returns-in-Some-clause-end : goal.returns-in-Some-clause-end
returns-in-Some-clause-end c = λ program budget items given stands.
    told-again c.args.self.now.flood c.in-Some.moment c.args.self.now program given (so_far program budget items) (so_far_at program budget (Ended items c.args.last)) c.in-Some.is
    (λ world is. run-stays program budget c.args.last (so_far program budget items).progress world is) stands.is_at

pub returns-in-Some-clause-stands : goal.returns-in-Some-clause-stands
returns-in-Some-clause-stands c = λ program budget items given stands. record {
  works = stands.works;
  budget_is = stands.budget_is;
  is_at = stays-so c.args.self.now.flood c.in-Some.moment c.args.self.now program given (so_far program budget items) (so_far_at program budget (Ended items c.args.last)) c.in-Some.is
      (λ world is. run-stays program budget c.args.last (so_far program budget items).progress world is) stands.is_at;
}

pub returns-clause-end : goal.returns-clause-end
returns-clause-end c = λ program budget items given stands.
    let on = goes-on c.args.self.now.flood c.args.self.now program given (so_far program budget items) c.in_default.not-Some stands.is_at in
    let same = ap (λ b. finish program b c.args.last on.flows.world c.args.self.now.dispatcher.left) stands.budget_is
    ∙ run-goes program budget c.args.last (so_far program budget items).progress on.flows.world c.args.self.now.dispatcher.left on.flows.comes in
    c.end.ensures.end program given (so_far_at program budget (Ended items c.args.last))
    (comes-from c.in_ok-flow.flow _ program given _ (so_far_at program budget (Ended items c.args.last)) same (ap known_in c.wind_up.ensures.connections ∙ on.known)
    (c.in_ok-flow.ensures.flows program given on.flows.world on.flows.stands))

pub returns-clause-stands : goal.returns-clause-stands
returns-clause-stands c = λ program budget items given stands.
    let on = goes-on c.args.self.now.flood c.args.self.now program given (so_far program budget items) c.in_default.not-Some stands.is_at in
    let same = ap (λ b. finish program b c.args.last on.flows.world c.args.self.now.dispatcher.left) stands.budget_is
    ∙ run-goes program budget c.args.last (so_far program budget items).progress on.flows.world c.args.self.now.dispatcher.left on.flows.comes in
    record {
      works = c.end.ensures.works;
      budget_is = c.end.ensures.budget ∙ (c.wind_up.ensures.budget ∙ stands.budget_is);
      is_at = c.end.ensures.is_at program given (so_far_at program budget (Ended items c.args.last))
          (comes-from c.in_ok-flow.flow _ program given _ (so_far_at program budget (Ended items c.args.last)) same (ap known_in c.wind_up.ensures.connections ∙ on.known)
          (c.in_ok-flow.ensures.flows program given on.flows.world on.flows.stands));
    }
