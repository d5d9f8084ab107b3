use Rattle.std.proofs.Common.{ℕ, List, ◌++◌, take, refl}
use Rattle.std.proofs.lemmas.Result.{err_from_is_err_and}
use Rattle.zk_outcome.proofs.SoFar.{read_more, stopped_for_memory, stopped_by_input}
use Rattle.zk_load.proofs.reading.read_chunks.Goals as goal

pub loop-shelf-preserved : goal.loop-shelf-preserved
loop-shelf-preserved g c =
    read_more (g.S.Shelf.outside c.args.shelf.now) (g.S.Shelf.outside c.loop-shelf.shelf) (g.S.Shelf.outside c.read.new.self) c.loop-shelf.bytes c.append.new.self
    c.loop-shelf.chunk c.read.new.buf c.in-Bytes.n c.loop-shelf.invariant c.in-Bytes.ensures.leaves c.in_ok-append-in-Bytes.ensures.ok

pub returns-in_err-append-in-Bytes-clause-stopped : goal.returns-in_err-append-in-Bytes-clause-stopped
returns-in_err-append-in-Bytes-clause-stopped g c =
    let first = g.S.Shelf.outside c.args.shelf.now in
    let new = g.S.Shelf.outside c.read.new.self in
    let longer : List ℕ = c.loop-shelf.bytes ++ take c.in-Bytes.n c.read.new.buf in
    let p = err_from_is_err_and c.from_residual.result c.from_residual.ensures.1 in
    rw (p.1, p.2) (stopped_for_memory first new longer
    (read_more first (g.S.Shelf.outside c.loop-shelf.shelf) new c.loop-shelf.bytes longer c.loop-shelf.chunk c.read.new.buf c.in-Bytes.n c.loop-shelf.invariant
    c.in-Bytes.ensures.leaves refl))

pub returns-in-Failed-clause-stopped : goal.returns-in-Failed-clause-stopped
returns-in-Failed-clause-stopped g c =
    stopped_by_input (g.S.Shelf.outside c.args.shelf.now) (g.S.Shelf.outside c.loop-shelf.shelf) (g.S.Shelf.outside c.read.new.self) c.loop-shelf.bytes c.loop-shelf.invariant c.in-Failed.ensures.leaves
