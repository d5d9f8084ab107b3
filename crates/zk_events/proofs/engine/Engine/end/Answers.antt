use Rattle.std.proofs.Common.{sym, ap, subst, ◌∙◌}
use Rattle.zk_events.specs.declared.dispatcher.Flow.{Flow}
use Rattle.zk_events.specs.declared.engine.ItemEnd.TheVariants as ended
use Rattle.zk_events.specs.Standing.{Comes, end_of}
use Rattle.zk_events.proofs.engine.Engine.end.Goals as goal

pub returns-in-Goes-clause-end : goal.returns-in-Goes-clause-end
returns-in-Goes-clause-end c = λ program given so_far came.
    let goes = subst (λ (f : Flow). Comes f c.args.self.now program given so_far) c.in-Goes.is came in
    sym (ap end_of goes.flows.comes)

pub returns-in-Goes-clause-is_at : goal.returns-in-Goes-clause-is_at
returns-in-Goes-clause-is_at c = λ program given so_far came.
    let goes = subst (λ (f : Flow). Comes f c.args.self.now program given so_far) c.in-Goes.is came in
    record { flows = goes.flows; known = goes.known }

pub returns-in-Floods-clause-end : goal.returns-in-Floods-clause-end
returns-in-Floods-clause-end c = λ program given so_far came.
    let floods = subst (λ (f : Flow). Comes f c.args.self.now program given so_far) c.in-Floods.is came in
    ap ended.Flood (c.time-moment.ensures program given _ floods.stands) ∙ sym (ap end_of floods.comes)

pub returns-in-Floods-clause-is_at : goal.returns-in-Floods-clause-is_at
returns-in-Floods-clause-is_at c = λ program given so_far came.
    let floods = subst (λ (f : Flow). Comes f c.args.self.now program given so_far) c.in-Floods.is came in
    record { flooded = floods; at = c.time-moment.ensures program given _ floods.stands }
