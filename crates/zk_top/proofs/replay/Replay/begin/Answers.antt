use Rattle.std.proofs.lemmas.Result.{IfErr-weaker}
use Rattle.zk_top.proofs.Replaying.{begun_after}
use Rattle.zk_top.proofs.replay.Replay.begin.Goals as goal

pub returns-clause-after : goal.returns-clause-after
returns-clause-after g c =
    let old = g.S.Shelf.outside c.args.shelf.now in
    let new = g.S.Shelf.outside c.start.new.shelf in
    begun_after c.start.result c.args.self.now c.start.new.self old new c.start.ensures.end c.start.ensures.plays

pub returns-clause-stopped : goal.returns-clause-stopped
returns-clause-stopped g c = IfErr-weaker c.start.result _ _ (λ stop stopped first plan comes. stopped first plan.program plan.budget comes.plays) c.start.ensures.stopped
