use Rattle.std.proofs.lemmas.Result.{err_from_is_err_and}
use Rattle.zk_logs.specs.Logs.{file_name}
use Rattle.zk_logs.proofs.OutsideLemmas.{longer_part, second_handed, second_stopped}
use Rattle.zk_logs.proofs.pieces.close_log.Goals as goal

pub returns-in_err-hand_over-clause-stopped : goal.returns-in_err-hand_over-clause-stopped
returns-in_err-hand_over-clause-stopped g c =
    let old = g.S.Shelf.outside c.args.shelf.now in
    let new = g.S.Shelf.outside c.hand_over.new.shelf in
    let name = file_name c.args.path.now in
    let stop = c.in_err-hand_over.field-0.0 in
    let p = err_from_is_err_and c.from_residual.result c.from_residual.ensures.1 in
    rw (p.1, p.2) (longer_part stop name c.args.piece.now c.args.line.now old new c.in_err-hand_over.ensures.stopped)

pub returns-clause-handed : goal.returns-clause-handed
returns-clause-handed g c =
    let old = g.S.Shelf.outside c.args.shelf.now in
    let mid = g.S.Shelf.outside c.hand_over.new.shelf in
    let new = g.S.Shelf.outside c.hand_over-2.new.shelf in
    second_handed c.hand_over-2.result (file_name c.args.path.now) c.args.piece.now c.args.line.now old mid new c.in_ok-hand_over.ensures.handed c.hand_over-2.ensures.handed

pub returns-clause-stopped : goal.returns-clause-stopped
returns-clause-stopped g c =
    let old = g.S.Shelf.outside c.args.shelf.now in
    let mid = g.S.Shelf.outside c.hand_over.new.shelf in
    let new = g.S.Shelf.outside c.hand_over-2.new.shelf in
    second_stopped c.hand_over-2.result (file_name c.args.path.now) c.args.piece.now c.args.line.now old mid new c.in_ok-hand_over.ensures.handed c.hand_over-2.ensures.stopped
