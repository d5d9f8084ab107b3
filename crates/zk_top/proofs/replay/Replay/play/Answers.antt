use Rattle.std.proofs.Common.{subst}
use Rattle.std.proofs.lemmas.Result.{err_from_is_err_and}
use Rattle.zk_logs.specs.Logs.{log_files}
use Rattle.zk_top.specs.Logged.{dated}
use Rattle.zk_top.specs.Writing.{GivesAll, GivesPart}
use Rattle.zk_top.proofs.Replaying.{replayed_all, replayed_part, some_replayed}
use Rattle.zk_top.proofs.replay.Replay.play.Goals as goal

pub returns-in_err-came-clause-stopped : goal.returns-in_err-came-clause-stopped
returns-in_err-came-clause-stopped g c =
    let new = g.S.Shelf.outside c.run.new.shelf in
    let p = err_from_is_err_and c.from_residual.result c.from_residual.ensures.1 in
    rw (p.1, p.2) (λ first plan whole bytes writes begins reading.
    some_replayed whole plan first c.in_err-came.field-0.0 new (c.in_err-came.ensures.stopped first plan whole bytes begins reading))

pub returns-clause-replays : goal.returns-clause-replays
returns-clause-replays g c first plan whole bytes writes begins reading =
    let mid = g.S.Shelf.outside c.run.new.shelf in
    let new = g.S.Shelf.outside c.close.new.shelf in
    replayed_all first plan whole c.in_ok-came.came c.run.new.self c.run.new.reader mid new (c.in_ok-came.ensures.ran first plan whole bytes begins reading)
    (λ output given. subst (λ at. GivesAll output.text (log_files output.rows (dated at)) first.outside new) c.time.ensures (c.in_ok-close.ensures.written first output given writes)) c.in_ok-close.ensures.input

pub returns-in_err-close-clause-stopped : goal.returns-in_err-close-clause-stopped
returns-in_err-close-clause-stopped g c =
    let mid = g.S.Shelf.outside c.run.new.shelf in
    let new = g.S.Shelf.outside c.close.new.shelf in
    let stop = c.in_err-close.field-0.0 in
    let exit = c.from_residual-in_err-close in
    let p = err_from_is_err_and exit.result exit.ensures.1 in
    rw (p.1, p.2) (λ first plan whole bytes writes begins reading.
    replayed_part first plan whole c.in_ok-came.came c.run.new.self c.run.new.reader mid stop new (c.in_ok-came.ensures.ran first plan whole bytes begins reading)
    (λ output given. subst (λ at. GivesPart output.text (log_files output.rows (dated at)) first.outside stop new) c.time.ensures (c.in_err-close.ensures.stopped first output given writes)))
