use Rattle.std.proofs.Common.{true, sym, ap}
use Rattle.std.proofs.lemmas.Result.{err_from_is_err_and}
use Rattle.zk_top.specs.Replay.{items_in}
use Rattle.zk_top.proofs.Replaying.{came_by, finished_over}
use Rattle.zk_top.proofs.replay.Replay.end.Goals as goal

pub returns-in-Done-clause-over : goal.returns-in-Done-clause-over
returns-in-Done-clause-over g c first plan packets played =
    let new = g.S.Shelf.outside c.finish.new.shelf in
    let items = items_in plan packets true in
    finished_over first plan packets c.args.last c.in_ok-finish.field-0 _ (record c.args.self.now { player = c.finish.new.self }) new
    (c.in_ok-finish.ensures.plays first plan.program plan.budget items played.plays) (c.in_ok-finish.ensures.end first plan.program plan.budget items played.plays)
    (sym (ap (came_by c.args.last) c.in-Done.is))

pub returns-in-Flood-clause-over : goal.returns-in-Flood-clause-over
returns-in-Flood-clause-over g c first plan packets played =
    let new = g.S.Shelf.outside c.finish.new.shelf in
    let items = items_in plan packets true in
    finished_over first plan packets c.args.last c.in_ok-finish.field-0 _ (record c.args.self.now { player = c.finish.new.self }) new
    (c.in_ok-finish.ensures.plays first plan.program plan.budget items played.plays) (c.in_ok-finish.ensures.end first plan.program plan.budget items played.plays)
    (sym (ap (came_by c.args.last) c.in-Flood.is))

pub returns-in_err-finish-clause-stopped : goal.returns-in_err-finish-clause-stopped
returns-in_err-finish-clause-stopped g c =
    let p = err_from_is_err_and c.from_residual.result c.from_residual.ensures.1 in
    rw (p.1, p.2) (λ first plan packets played. c.in_err-finish.ensures.stopped first plan.program plan.budget (items_in plan packets true) played.plays)
