use Rattle.std.proofs.Common.{ℕ, List, refl, sym, ap, ◌∙◌}
use Rattle.std.specs.HashMap.{HashMap}
use Rattle.std.specs.declared.hash.BuildHasherDefault.{BuildHasherDefault}
use Rattle.std.specs.declared.hash.FoldHasher.{FoldHasher}
use Rattle.std.proofs.lemmas.Result.{err_from_is_err_and}
use Rattle.zk_logs.specs.Logs.{Row}
use Rattle.zk_logs.specs.Written.{pieces_of}
use Rattle.zk_logs.proofs.PieceLemmas.{Key, path_of, waiting}
use Rattle.zk_logs.proofs.WritingLemmas.{nothing_begun, open_created, open_writes, open_still_created, open_begun, new_begun, new_writes}
use Rattle.zk_logs.proofs.logs.LogFiles.write.Goals as goal

pub returns-in_err-line-clause-begun : goal.returns-in_err-line-clause-begun
returns-in_err-line-clause-begun g c =
    let row : Row = record { path = c.args.path.now; columns = c.args.columns.now; cells = c.args.cells.now; at = c.args.at } in
    let old = g.S.Shelf.outside c.args.shelf.now in
    let p = err_from_is_err_and c.from_residual.result c.from_residual.ensures.1 in
    rw p.1 (nothing_begun row (pieces_of c.args.self.now) old old refl)

pub add_line-requires : goal.add_line-requires
add_line-requires g c =
    let row : Row = record { path = c.args.path.now; columns = c.args.columns.now; cells = c.args.cells.now; at = c.args.at } in
    open_created row c.args.self.now.pieces.entries c.in-Some.piece.now (sym c.in-Some.ensures.value) (g.S.Shelf.outside c.args.shelf.now) c.requires.created

pub returns-in-Some-clause-written : goal.returns-in-Some-clause-written
returns-in-Some-clause-written g c =
    let row : Row = record { path = c.args.path.now; columns = c.args.columns.now; cells = c.args.cells.now; at = c.args.at } in
    let old = g.S.Shelf.outside c.args.shelf.now in
    let new = g.S.Shelf.outside c.add_line.new.shelf in
    let piece = c.add_line.new.piece in
    open_writes row c.args.self.now.pieces.entries c.in-Some.piece.now (sym c.in-Some.ensures.value) old new (c.get_mut.follows.lender piece).entries piece c.as_slice.result.now
    (c.as_slice.ensures ∙ c.in_ok-line.ensures) (c.get_mut.follows.holds piece).0 c.add_line.result c.add_line.ensures.handed

pub returns-in-Some-clause-created : goal.returns-in-Some-clause-created
returns-in-Some-clause-created g c =
    let row : Row = record { path = c.args.path.now; columns = c.args.columns.now; cells = c.args.cells.now; at = c.args.at } in
    let old = g.S.Shelf.outside c.args.shelf.now in
    let new = g.S.Shelf.outside c.add_line.new.shelf in
    let piece = c.add_line.new.piece in
    open_still_created row c.args.self.now.pieces.entries c.in-Some.piece.now (sym c.in-Some.ensures.value) old new (c.get_mut.follows.lender piece).entries piece c.as_slice.result.now
    (c.as_slice.ensures ∙ c.in_ok-line.ensures) (c.get_mut.follows.holds piece).0 c.add_line.result c.requires.created c.add_line.ensures.handed

pub returns-in-Some-clause-begun : goal.returns-in-Some-clause-begun
returns-in-Some-clause-begun g c =
    let row : Row = record { path = c.args.path.now; columns = c.args.columns.now; cells = c.args.cells.now; at = c.args.at } in
    let old = g.S.Shelf.outside c.args.shelf.now in
    let new = g.S.Shelf.outside c.add_line.new.shelf in
    let piece = c.add_line.new.piece in
    open_begun row c.args.self.now.pieces.entries c.in-Some.piece.now (sym c.in-Some.ensures.value) old new (c.get_mut.follows.lender piece).entries piece c.as_slice.result.now
    (c.as_slice.ensures ∙ c.in_ok-line.ensures) (c.get_mut.follows.holds piece).0 c.add_line.result c.add_line.ensures.stopped

pub returns-clause-written : goal.returns-clause-written
returns-clause-written g c =
    let row : Row = record { path = c.args.path.now; columns = c.args.columns.now; cells = c.args.cells.now; at = c.args.at } in
    let old = g.S.Shelf.outside c.args.shelf.now in
    let new = g.S.Shelf.outside c.begin.new.shelf in
    new_writes row c.args.self.now.pieces.entries (sym c.in-None.ensures.value) old new c.begin.result
    (waiting path_of c.get_mut.follows.lender-at-none.entries) (pieces_of c.begin.new.self) c.as_slice-in-None.result.now
    c.begin.ensures.creates c.begin.ensures.begun
    (λ name. ap (λ (m : HashMap Key (List ℕ) (BuildHasherDefault FoldHasher)). waiting path_of m.entries name) c.get_mut.follows.holds-at-none)
    (c.as_slice-in-None.ensures ∙ c.in_ok-line.ensures)

pub returns-clause-begun : goal.returns-clause-begun
returns-clause-begun g c =
    let row : Row = record { path = c.args.path.now; columns = c.args.columns.now; cells = c.args.cells.now; at = c.args.at } in
    new_begun row c.args.self.now.pieces.entries (sym c.in-None.ensures.value) (g.S.Shelf.outside c.args.shelf.now) (g.S.Shelf.outside c.begin.new.shelf)
    c.begin.result c.begin.ensures.stopped
