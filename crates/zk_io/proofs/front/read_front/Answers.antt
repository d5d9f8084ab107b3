use Rattle.std.proofs.Common.{◌≡◌, ◌+◌, ◌<◌, ℕ, List, ◌++◌, length, take, refl, sym, ap, ◌∙◌, arith, length-append, length-take-le}
use Rattle.std.proofs.lemmas.Result.{err_from_is_err_and}
use Rattle.zk_outcome.proofs.SoFar.{read_more, stopped_for_memory, stopped_by_input}
use Rattle.zk_io.proofs.EarlyLaws.{failed_early}
use Rattle.zk_io.proofs.front.read_front.Goals as goal

pub loop-shelf-smaller : goal.loop-shelf-smaller
loop-shelf-smaller g c =
    let few : length c.loop-shelf.front < 24 = rw (← c.as_slice.ensures) (c.is_undecided.ensures.few c.loop-shelf-test.true) in
    let grown : length c.append.new.self ≡ length c.loop-shelf.front + c.in-Bytes.n =
    ap length c.in_ok-append-in-Bytes.ensures.ok ∙ length-append c.loop-shelf.front (take c.in-Bytes.n c.read.new.buf)
    ∙ ap (λ n. length c.loop-shelf.front + n) (length-take-le c.in-Bytes.n c.read.new.buf (omega (arith, c.in-Bytes.ensures.leaves.within))) in
    omega (arith, few, grown, c.in-Bytes.ensures.leaves.some)

pub loop-shelf-preserved : goal.loop-shelf-preserved
loop-shelf-preserved g c =
    let few : length c.loop-shelf.front < 24 = rw (← c.as_slice.ensures) (c.is_undecided.ensures.few c.loop-shelf-test.true) in
    let grown : length c.append.new.self ≡ length c.loop-shelf.front + c.in-Bytes.n =
    ap length c.in_ok-append-in-Bytes.ensures.ok ∙ length-append c.loop-shelf.front (take c.in-Bytes.n c.read.new.buf)
    ∙ ap (λ n. length c.loop-shelf.front + n) (length-take-le c.in-Bytes.n c.read.new.buf (omega (arith, c.in-Bytes.ensures.leaves.within))) in
    record {
      far = read_more (g.S.Shelf.outside c.args.shelf.now) (g.S.Shelf.outside c.loop-shelf.shelf) (g.S.Shelf.outside c.read.new.self) c.loop-shelf.front c.append.new.self
          c.loop-shelf.chunk c.read.new.buf c.in-Bytes.n c.loop-shelf.invariant.far c.in-Bytes.ensures.leaves c.in_ok-append-in-Bytes.ensures.ok;
      soon = record {
        before = c.loop-shelf.front;
        piece = take c.in-Bytes.n c.read.new.buf;
        joined = c.in_ok-append-in-Bytes.ensures.ok;
        short = rw (← c.as_slice.ensures) (sym c.is_undecided.ensures.undecided ∙ c.loop-shelf-test.true);
        few = omega (arith, length-take-le c.in-Bytes.n c.read.new.buf (omega (arith, c.in-Bytes.ensures.leaves.within)), c.in-Bytes.ensures.leaves.within);
      };
      short = omega (arith, few, grown, c.in-Bytes.ensures.leaves.within);
    }

pub returns-in_err-append-in-Bytes-clause-early : goal.returns-in_err-append-in-Bytes-clause-early
returns-in_err-append-in-Bytes-clause-early g c =
    let p = err_from_is_err_and c.from_residual.result c.from_residual.ensures.1 in
    rw (p.1, p.2) tt

pub returns-in_err-append-in-Bytes-clause-stopped : goal.returns-in_err-append-in-Bytes-clause-stopped
returns-in_err-append-in-Bytes-clause-stopped g c =
    let first = g.S.Shelf.outside c.args.shelf.now in
    let new = g.S.Shelf.outside c.read.new.self in
    let longer : List ℕ = c.loop-shelf.front ++ take c.in-Bytes.n c.read.new.buf in
    let p = err_from_is_err_and c.from_residual.result c.from_residual.ensures.1 in
    rw (p.1, p.2) (stopped_for_memory first new longer
    (read_more first (g.S.Shelf.outside c.loop-shelf.shelf) new c.loop-shelf.front longer c.loop-shelf.chunk c.read.new.buf c.in-Bytes.n c.loop-shelf.invariant.far
    c.in-Bytes.ensures.leaves refl))

pub returns-in-Failed-clause-stopped : goal.returns-in-Failed-clause-stopped
returns-in-Failed-clause-stopped g c =
    stopped_by_input (g.S.Shelf.outside c.args.shelf.now) (g.S.Shelf.outside c.loop-shelf.shelf) (g.S.Shelf.outside c.read.new.self) c.loop-shelf.front c.loop-shelf.invariant.far c.in-Failed.ensures.leaves

pub returns-in-Failed-clause-early : goal.returns-in-Failed-clause-early
returns-in-Failed-clause-early g c =
    failed_early (g.S.Shelf.outside c.args.shelf.now) (g.S.Shelf.outside c.loop-shelf.shelf) (g.S.Shelf.outside c.read.new.self) c.loop-shelf.front c.loop-shelf.invariant.far c.in-Failed.ensures.leaves
    (rw (← c.as_slice.ensures) (sym c.is_undecided.ensures.undecided ∙ c.loop-shelf-test.true))
