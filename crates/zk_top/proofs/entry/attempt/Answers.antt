use Rattle.std.proofs.lemmas.Result.{err_from_is_err_and}
use Rattle.zk_top.proofs.EntryLemmas.{with_complaint, broken_complaint}
use Rattle.zk_top.proofs.entry.attempt.Goals as goal

pub returns-in_err-complain-clause-stopped : goal.returns-in_err-complain-clause-stopped
returns-in_err-complain-clause-stopped g c =
    let old = g.S.Shelf.outside c.args.shelf.now in
    let mid = g.S.Shelf.outside c.carry_out.new.shelf in
    let new = g.S.Shelf.outside c.complain.new.shelf in
    let exit = c.from_residual-in_err-complain in
    let p = err_from_is_err_and exit.result exit.ensures.1 in
    rw (p.1, p.2) (broken_complaint c.args.words.now old mid c.in_ok-ending.ending c.in_err-complain.field-0.0 new c.in_ok-ending.ensures.done c.in_err-complain.ensures.stopped)

pub returns-clause-done : goal.returns-clause-done
returns-clause-done g c =
    with_complaint c.args.words.now (g.S.Shelf.outside c.args.shelf.now) (g.S.Shelf.outside c.carry_out.new.shelf) c.in_ok-ending.ending (g.S.Shelf.outside c.complain.new.shelf)
    c.in_ok-ending.ensures.done c.in_ok-complain.ensures.done
