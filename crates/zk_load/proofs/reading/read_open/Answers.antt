use Rattle.std.proofs.Common.{[], refl}
use Rattle.std.proofs.lemmas.Result.{err_from_is_err_and}
use Rattle.zk_outcome.proofs.Doing.{out_of_memory}
use Rattle.zk_load.proofs.reading.read_open.Goals as goal

pub returns-in_err-chunk-clause-stopped : goal.returns-in_err-chunk-clause-stopped
returns-in_err-chunk-clause-stopped g c =
    let outside = g.S.Shelf.outside c.args.shelf.now in
    let p = err_from_is_err_and c.from_residual.result c.from_residual.ensures.1 in
    rw (p.1, p.2) (out_of_memory [] [] [] outside outside refl)
