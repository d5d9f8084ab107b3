use Rattle.std.proofs.Common.{[], ◌≡◌, ◌≤◌, ◌<◌, ◌^◌, ◌++◌, take, length, refl, ap, subst, inl, inr, arith, append-nil, length-append, length-take-le}
use Rattle.std.proofs.lemmas.Result.{err_from_is_err_and}
use Rattle.zk_base.specs.Shelf.{Outside}
use Rattle.zk_pcap.specs.Standing.{StandsFor}
use Rattle.zk_io.specs.Reading.{SameInput}
use Rattle.zk_outcome.proofs.Doing.{out_of_memory}
use Rattle.zk_outcome.proofs.SoFar.{stopped_by_input}
use Rattle.zk_io.proofs.CaptureReading.{has_read_more, read_nothing, behind_more, behind_over, reads_on}
use Rattle.zk_io.proofs.capture.CaptureReader.read_piece.Goals as goal

pub returns-then-most-eq0-clause-goes_on : goal.returns-then-most-eq0-clause-goes_on
returns-then-most-eq0-clause-goes_on g c whole bytes records is =
    let now = g.S.Shelf.outside c.args.shelf.now in (
      bytes,
      reads_on whole bytes bytes records c.args.self.now _ now now is
          (behind_over whole is.header bytes is.packets c.args.self.now _ now now is.behind (refl, refl) is.behind.stands refl refl refl (inl (omega arith))),
    )

pub returns-in-End-clause-goes_on : goal.returns-in-End-clause-goes_on
returns-in-End-clause-goes_on g c whole bytes records is =
    let old = g.S.Shelf.outside c.args.shelf.now in
    let new = g.S.Shelf.outside c.read_from.new.shelf in
    let read = rw c.in-End.is at c.in_ok-n.ensures.read in
    let short : length (bytes ++ []) < 2 ^ 64 = omega (arith, length-append bytes [], is.behind.counted) in
    let stands = subst (λ file. StandsFor c.read_from.new.self is.header file is.packets) (append-nil bytes) (read.brings is.header bytes is.packets is.behind.stands short) in
    let same : SameInput old new = (ap (λ (o : Outside). o.reading) read.reads.same, ap (λ (o : Outside). o.inputs) read.reads.same) in (
      bytes,
      reads_on whole bytes bytes records c.args.self.now _ old new is
          (behind_over whole is.header bytes is.packets c.args.self.now _ old new is.behind same stands refl refl refl (inr read.reads.out)),
    )

pub returns-in_err-n-clause-stopped : goal.returns-in_err-n-clause-stopped
returns-in_err-n-clause-stopped g c =
    let old = g.S.Shelf.outside c.args.shelf.now in
    let p = err_from_is_err_and c.from_residual.result c.from_residual.ensures.1 in
    rw (p.1, p.2) (out_of_memory [] [] [] old (g.S.Shelf.outside c.read_from.new.shelf) c.in_err-n.ensures.unread)

pub returns-in-Failed-clause-stopped : goal.returns-in-Failed-clause-stopped
returns-in-Failed-clause-stopped g c =
    let old = g.S.Shelf.outside c.args.shelf.now in
    let failed = rw c.in-Failed.is at c.in_ok-n.ensures.read in
    stopped_by_input old old (g.S.Shelf.outside c.read_from.new.shelf) [] (read_nothing old c.requires.input) failed.reads

pub returns-in-Bytes-clause-goes_on : goal.returns-in-Bytes-clause-goes_on
returns-in-Bytes-clause-goes_on g c whole bytes records is =
    let old = g.S.Shelf.outside c.args.shelf.now in
    let new = g.S.Shelf.outside c.read_from.new.shelf in
    let n = c.in-Bytes.n in
    let read = rw c.in-Bytes.is at c.in_ok-n.ensures.read in
    let piece = take n read.after in
    let few : n ≤ c.args.self.now.left = omega (arith, read.reads.within, read.long, c.min-most.ensures) in
    let size : length piece ≡ n = length-take-le n read.after (omega (arith, read.reads.within, read.long, read.long_after)) in
    let short : length (bytes ++ piece) < 2 ^ 64 = omega (arith, length-append bytes piece, size, is.behind.counted, few) in (
      bytes ++ piece,
      reads_on whole bytes (bytes ++ piece) records c.args.self.now _ old new is
          (behind_more whole is.header bytes piece is.packets c.args.self.now _ old new is.behind (has_read_more whole bytes old new read.before read.after n is.behind.read read.reads)
          (read.brings is.header bytes is.packets is.behind.stands short) refl refl (omega (arith, size, few)) (λ out. absurd (let never : ⊥ = cc in never))),
    )
