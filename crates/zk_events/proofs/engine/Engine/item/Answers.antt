use Rattle.std.proofs.Common.{[], ◌∷◌, ◌++◌, ap, sym, ◌∙◌}
use Rattle.zk_events.specs.Run.{Begun, SoFar, so_far, so_far_at}
use Rattle.zk_events.proofs.EngineLemmas.{comes-next, goes-on, item-stays, one-more, stays-so, told-again}
use Rattle.zk_events.proofs.engine.Engine.item.Goals as goal

pub returns-in-Some-clause-end : goal.returns-in-Some-clause-end
returns-in-Some-clause-end c = λ program budget items given stands.
    told-again c.args.self.now.flood c.in-Some.moment c.args.self.now program given (so_far program budget items) (so_far program budget (items ++ c.args.item.now ∷ [])) c.in-Some.is
    (λ world is. item-stays program budget (so_far program budget items) c.args.item.now world is ∙ sym (ap (λ (s : SoFar). s.progress) (one-more program budget items c.args.item.now)))
    stands.is_at

pub returns-in-Some-clause-stands : goal.returns-in-Some-clause-stands
returns-in-Some-clause-stands c = λ program budget items given stands. record {
  works = stands.works;
  budget_is = stands.budget_is;
  is_at = stays-so c.args.self.now.flood c.in-Some.moment c.args.self.now program given (so_far program budget items) (so_far program budget (items ++ c.args.item.now ∷ [])) c.in-Some.is
      (λ world is. item-stays program budget (so_far program budget items) c.args.item.now world is ∙ sym (ap (λ (s : SoFar). s.progress) (one-more program budget items c.args.item.now)))
      stands.is_at;
}

pub returns-clause-end : goal.returns-clause-end
returns-clause-end c = λ program budget items given stands.
    let on = goes-on c.args.self.now.flood c.args.self.now program given (so_far program budget items) c.in_default.not-Some stands.is_at in
    c.end.ensures.end program given (so_far_at program budget (Begun (items ++ c.args.item.now ∷ [])))
    (comes-next c.in_ok-flow.flow _ program given c.args.self.now.dispatcher.budget budget items c.args.item.now stands.budget_is
    (c.in_ok-flow.ensures.comes program given (so_far program budget items) on.flows on.known))

pub returns-clause-stands : goal.returns-clause-stands
returns-clause-stands c = λ program budget items given stands.
    let on = goes-on c.args.self.now.flood c.args.self.now program given (so_far program budget items) c.in_default.not-Some stands.is_at in
    record {
      works = c.end.ensures.works;
      budget_is = c.end.ensures.budget ∙ (c.take.ensures.budget ∙ stands.budget_is);
      is_at = c.end.ensures.is_at program given (so_far_at program budget (Begun (items ++ c.args.item.now ∷ [])))
          (comes-next c.in_ok-flow.flow _ program given c.args.self.now.dispatcher.budget budget items c.args.item.now stands.budget_is
          (c.in_ok-flow.ensures.comes program given (so_far program budget items) on.flows on.known));
    }
