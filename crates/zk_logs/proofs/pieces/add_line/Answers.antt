use Rattle.std.proofs.Common.{◌∙◌, subst}
use Rattle.std.proofs.lemmas.Result.{err_from_is_err_and}
use Rattle.zk_logs.specs.Logs.{file_name}
use Rattle.zk_logs.specs.Handed.{HandsPart}
use Rattle.zk_logs.proofs.pieces.add_line.Goals as goal

pub returns-in_err-hand_over-clause-stopped : goal.returns-in_err-hand_over-clause-stopped
returns-in_err-hand_over-clause-stopped g c =
    let old = g.S.Shelf.outside c.args.shelf.now in
    let new = g.S.Shelf.outside c.hand_over.new.shelf in
    let name = file_name c.args.path.now in
    let stop = c.in_err-hand_over.field-0.0 in
    let exit = c.from_residual-in_err-hand_over in
    let p = err_from_is_err_and exit.result exit.ensures.1 in
    rw (p.1, p.2) (subst (λ bytes. HandsPart name bytes old stop new) (c.as_slice.ensures ∙ c.in_ok-append.ensures.ok) c.in_err-hand_over.ensures.stopped)
