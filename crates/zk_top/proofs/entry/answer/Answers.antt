use Rattle.std.proofs.lemmas.Result.{err_from_is_err_and}
use Rattle.zk_top.proofs.EntryLemmas.{answered, answer_broken}
use Rattle.zk_top.proofs.entry.answer.Goals as goal

pub returns-clause-done : goal.returns-clause-done
returns-clause-done g c = answered c.args.text.now (g.S.Shelf.outside c.args.shelf.now) (g.S.Shelf.outside c.say.new.shelf) c.in_ok-say.ensures.said

pub returns-in_err-say-clause-stopped : goal.returns-in_err-say-clause-stopped
returns-in_err-say-clause-stopped g c =
    let p = err_from_is_err_and c.from_residual.result c.from_residual.ensures.1 in
    rw (p.1, p.2) (answer_broken c.args.text.now (g.S.Shelf.outside c.args.shelf.now) c.in_err-say.field-0.0 (g.S.Shelf.outside c.say.new.shelf) c.in_err-say.ensures.stopped)
