use Rattle.std.proofs.Common.{[], ◌∷◌}
use Rattle.std.proofs.lemmas.Result.{err_from_is_err_and}
use Rattle.zk_outcome.proofs.Doing.{start_part, start_all, does_both_part, call_out_of_memory}
use Rattle.zk_outcome.proofs.SoFar.{read_of_input, none_of_input}
use Rattle.zk_load.proofs.reading.read_input.Goals as goal

pub returns-in_err-read_open-in-Open-clause-stopped : goal.returns-in_err-read_open-in-Open-clause-stopped
returns-in_err-read_open-in-Open-clause-stopped g c =
    let old = g.S.Shelf.outside c.args.shelf.now in
    let mid = g.S.Shelf.outside c.start.new.self in
    let new = g.S.Shelf.outside c.read_open.new.shelf in
    let stop = c.in_err-read_open-in-Open.field-0.0 in
    let p = err_from_is_err_and c.from_residual.result c.from_residual.ensures.1 in
    rw (p.1, p.2) (does_both_part (c.args.name.now ∷ []) [] [] [] [] old mid stop new
    (start_all c.args.name.now old mid c.in-Open.ensures.leaves).all c.in_err-read_open-in-Open.ensures.stopped)

pub returns-in-Failed-clause-stopped : goal.returns-in-Failed-clause-stopped
returns-in-Failed-clause-stopped g c =
    start_part c.args.name.now (g.S.Shelf.outside c.args.shelf.now) (g.S.Shelf.outside c.start.new.self) c.in-Failed.ensures.leaves

pub returns-in-NoMemory-clause-stopped : goal.returns-in-NoMemory-clause-stopped
returns-in-NoMemory-clause-stopped g c =
    call_out_of_memory (c.args.name.now ∷ []) [] [] (g.S.Shelf.outside c.args.shelf.now) (g.S.Shelf.outside c.start.new.self) c.in-NoMemory.ensures.leaves

pub returns-in_ok-read_open-in-Open-clause-bytes : goal.returns-in_ok-read_open-in-Open-clause-bytes
returns-in_ok-read_open-in-Open-clause-bytes g c =
    read_of_input c.args.name.now c.args.most (g.S.Shelf.outside c.args.shelf.now) (g.S.Shelf.outside c.start.new.self) c.in_ok-read_open-in-Open.field-0
    c.in-Open.ensures.leaves c.in_ok-read_open-in-Open.ensures.bytes

pub returns-in-Absent-clause-bytes : goal.returns-in-Absent-clause-bytes
returns-in-Absent-clause-bytes g c =
    none_of_input c.args.name.now c.args.most (g.S.Shelf.outside c.args.shelf.now) (g.S.Shelf.outside c.start.new.self) c.in-Absent.ensures.leaves
