use Rattle.std.proofs.Common.{[], ◌∷◌, refl}
use Rattle.std.proofs.lemmas.Result.{err_from_is_err_and}
use Rattle.zk_outcome.specs.declared.stop.Stop.TheVariants.{NoMemory}
use Rattle.zk_outcome.proofs.Doing.{out_of_memory}
use Rattle.zk_top.specs.Outcome.{run_report}
use Rattle.zk_top.proofs.OverCapture.{broken_before}
use Rattle.zk_top.proofs.running.run_program.Goals as goal

pub returns-in_err-chunk-clause-stopped : goal.returns-in_err-chunk-clause-stopped
returns-in_err-chunk-clause-stopped g c =
    let old = g.S.Shelf.outside c.args.shelf.now in
    let file = c.args.file.now in
    let p = err_from_is_err_and c.from_residual.result c.from_residual.ensures.1 in
    rw (p.1, p.2) (λ program are. broken_before (run_report file c.args.settings program) file old NoMemory old (out_of_memory (file ∷ []) [] [] old old refl))
