use Rattle.std.proofs.Common.{◌≡◌, [], ℕ, List, None, true, false, is_some, refl, sym, ap, subst, ◌∙◌}
use Rattle.std.proofs.lemmas.Result.{err_from_is_err_and}
use Rattle.zk_base.specs.Shelf.{IsCreated}
use Rattle.zk_logs.specs.Logs.{file_name, open_files, rows_in}
use Rattle.zk_logs.specs.Written.{pieces_of}
use Rattle.zk_logs.proofs.ClosingLemmas.{Closes, closes_first, closes_more, closes_stopped, closes_done, first_created, handed_as, part_as, written_closes}
use Rattle.zk_logs.proofs.PieceLemmas.{Key, path_of, waiting}
use Rattle.zk_logs.proofs.WrittenLemmas.{none_written}
use Rattle.zk_logs.proofs.logs.LogFiles.close.Goals as goal

pub returns-in_err-line-clause-begun : goal.returns-in_err-line-clause-begun
returns-in_err-line-clause-begun g c =
    let old = g.S.Shelf.outside c.args.shelf.now in
    let p = err_from_is_err_and c.from_residual.result c.from_residual.ensures.1 in
    rw p.1 (λ before rows written. written_closes before old.outputs rows c.args.at (pieces_of c.args.self.now) written)

pub logs-init : goal.logs-init
logs-init g c =
    let all = c.args.self.now.pieces.entries in
    let old = g.S.Shelf.outside c.args.shelf.now in
    subst (λ (left : List (Key × List ℕ)). Closes path_of c.args.at all left old old) (sym (c.into_iter-path-iterator.ensures.into_iter_gives ∙ c.iter-path-items.ensures.rest))
    (closes_first path_of c.args.at all old c.iter-path-items.ensures.unique c.requires.created)

pub close_log-requires : goal.close_log-requires
close_log-requires g c =
    let all = c.args.self.now.pieces.entries in
    let old = g.S.Shelf.outside c.args.shelf.now in
    let now = g.S.Shelf.outside c.logs.shelf in
    let entry : Key × List ℕ = (c.in-Some.path.now, c.in-Some.piece.now) in
    let closes = subst (λ (left : List (Key × List ℕ)). Closes path_of c.args.at all left old now) c.in-Some.ensures.steps c.logs.invariant in
    subst (λ path. IsCreated now (file_name path)) (sym c.deref.ensures.value) (first_created path_of c.args.at all c.next.new.self entry old now closes)

pub logs-preserved : goal.logs-preserved
logs-preserved g c =
    let all = c.args.self.now.pieces.entries in
    let old = g.S.Shelf.outside c.args.shelf.now in
    let now = g.S.Shelf.outside c.logs.shelf in
    let new = g.S.Shelf.outside c.close_log.new.shelf in
    let entry : Key × List ℕ = (c.in-Some.path.now, c.in-Some.piece.now) in
    let closes = subst (λ (left : List (Key × List ℕ)). Closes path_of c.args.at all left old now) c.in-Some.ensures.steps c.logs.invariant in
    closes_more path_of c.args.at all c.next.new.self entry old now new closes
    (handed_as c.deref.result.now entry.0.items c.as_slice.result.now entry.1 c.as_slice-in-logs.result.now _ now new []
    c.deref.ensures.value c.as_slice.ensures (c.as_slice-in-logs.ensures ∙ c.in_ok-line.ensures) c.in_ok-close_log.ensures.handed)

pub returns-in_err-close_log-clause-begun : goal.returns-in_err-close_log-clause-begun
returns-in_err-close_log-clause-begun g c =
    let all = c.args.self.now.pieces.entries in
    let old = g.S.Shelf.outside c.args.shelf.now in
    let now = g.S.Shelf.outside c.logs.shelf in
    let new = g.S.Shelf.outside c.close_log.new.shelf in
    let stop = c.in_err-close_log.field-0.0 in
    let entry : Key × List ℕ = (c.in-Some.path.now, c.in-Some.piece.now) in
    let closes = subst (λ (left : List (Key × List ℕ)). Closes path_of c.args.at all left old now) c.in-Some.ensures.steps c.logs.invariant in
    let exit = c.from_residual-in_err-close_log in
    let p = err_from_is_err_and exit.result exit.ensures.1 in
    rw p.1 (closes_stopped path_of c.args.at all c.next.new.self entry stop old now new closes
    (part_as stop c.deref.result.now entry.0.items c.as_slice.result.now entry.1 c.as_slice-in-logs.result.now _ now new
    c.deref.ensures.value c.as_slice.ensures (c.as_slice-in-logs.ensures ∙ c.in_ok-line.ensures) c.in_err-close_log.ensures.stopped)).0

pub returns-in_err-close_log-clause-stopped : goal.returns-in_err-close_log-clause-stopped
returns-in_err-close_log-clause-stopped g c =
    let all = c.args.self.now.pieces.entries in
    let old = g.S.Shelf.outside c.args.shelf.now in
    let now = g.S.Shelf.outside c.logs.shelf in
    let new = g.S.Shelf.outside c.close_log.new.shelf in
    let stop = c.in_err-close_log.field-0.0 in
    let entry : Key × List ℕ = (c.in-Some.path.now, c.in-Some.piece.now) in
    let closes = subst (λ (left : List (Key × List ℕ)). Closes path_of c.args.at all left old now) c.in-Some.ensures.steps c.logs.invariant in
    let exit = c.from_residual-in_err-close_log in
    let p = err_from_is_err_and exit.result exit.ensures.1 in
    rw (p.1, p.2) (closes_stopped path_of c.args.at all c.next.new.self entry stop old now new closes
    (part_as stop c.deref.result.now entry.0.items c.as_slice.result.now entry.1 c.as_slice-in-logs.result.now _ now new
    c.deref.ensures.value c.as_slice.ensures (c.as_slice-in-logs.ensures ∙ c.in_ok-line.ensures) c.in_err-close_log.ensures.stopped)).1

pub returns-clause-closed : goal.returns-clause-closed
returns-clause-closed g c =
    let all = c.args.self.now.pieces.entries in
    let old = g.S.Shelf.outside c.args.shelf.now in
    let now = g.S.Shelf.outside c.logs.shelf in
    closes_done path_of c.args.at all old now (subst (λ (left : List (Key × List ℕ)). Closes path_of c.args.at all left old now) c.in-None.ensures.steps.0 c.logs.invariant)

pub returns-clause-none : goal.returns-clause-none
unfolding open_files rows_in
returns-clause-none g c = λ outputs.
    none_written outputs (open_files []) (pieces_of (record { alloc = c.args.self.now.alloc; pieces = c.clear.new.self })) (λ name. refl)
    (λ name. ap (λ entries. waiting path_of entries name) c.clear.ensures.empty)

pub returns-clause-only : goal.returns-clause-only
returns-clause-only g c = c.logs.invariant.only

pub returns-clause-created : goal.returns-clause-created
returns-clause-created g c = λ outside name there.
    let none : waiting path_of c.clear.new.self.entries name ≡ None = ap (λ entries. waiting path_of entries name) c.clear.ensures.empty in
    let never : false ≡ true = sym (ap is_some none) ∙ there in
    cc
