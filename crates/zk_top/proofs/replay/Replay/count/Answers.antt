use Rattle.zk_top.proofs.Replaying.{counted_all}
use Rattle.zk_top.proofs.replay.Replay.count.Goals as goal

pub returns : goal.returns
returns g c first plan whole bytes counts begins reading =
    let new = g.S.Shelf.outside c.run.new.shelf in
    counted_all first plan whole c.in_ok-came.came c.run.new.self c.run.new.reader new c.rows.result
    (c.in_ok-came.ensures.ran first plan whole bytes begins reading) (λ output taken. c.rows.ensures.counted first output new taken counts)
