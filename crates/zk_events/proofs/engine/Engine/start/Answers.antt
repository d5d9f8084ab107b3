use Rattle.std.proofs.Common.{[], subst, ◌∙◌}
use Rattle.zk_events.specs.Run.{Begun, New, so_far_at}
use Rattle.zk_events.specs.Standing.{Comes}
use Rattle.zk_events.proofs.EngineLemmas.{goes-on, stays-so, told-again}
use Rattle.zk_events.proofs.engine.Engine.start.Goals as goal

pub returns-in-Some-clause-end : goal.returns-in-Some-clause-end
returns-in-Some-clause-end c = λ program budget given stands.
    told-again c.args.self.now.flood c.in-Some.moment c.args.self.now program given (so_far_at program budget New) (so_far_at program budget (Begun [])) c.in-Some.is (λ world is. cc) stands.is_at

pub returns-in-Some-clause-stands : goal.returns-in-Some-clause-stands
returns-in-Some-clause-stands c = λ program budget given stands. record {
  works = stands.works;
  budget_is = stands.budget_is;
  is_at = stays-so c.args.self.now.flood c.in-Some.moment c.args.self.now program given (so_far_at program budget New) (so_far_at program budget (Begun [])) c.in-Some.is (λ world is. cc) stands.is_at;
}

pub returns-clause-end : goal.returns-clause-end
returns-clause-end c = λ program budget given stands.
    let on = goes-on c.args.self.now.flood c.args.self.now program given (so_far_at program budget New) c.in_default.not-Some stands.is_at in
    let came = subst (λ b. Comes c.in_ok-flow.flow c.begin.new.self program given (so_far_at program b (Begun []))) stands.budget_is
    (c.in_ok-flow.ensures.comes program given on.flows on.known) in
    c.end.ensures.end program given (so_far_at program budget (Begun [])) came

pub returns-clause-stands : goal.returns-clause-stands
returns-clause-stands c = λ program budget given stands.
    let on = goes-on c.args.self.now.flood c.args.self.now program given (so_far_at program budget New) c.in_default.not-Some stands.is_at in
    let came = subst (λ b. Comes c.in_ok-flow.flow c.begin.new.self program given (so_far_at program b (Begun []))) stands.budget_is
    (c.in_ok-flow.ensures.comes program given on.flows on.known) in
    record {
      works = c.end.ensures.works;
      budget_is = c.end.ensures.budget ∙ (c.begin.ensures.budget ∙ stands.budget_is);
      is_at = c.end.ensures.is_at program given (so_far_at program budget (Begun [])) came;
    }
