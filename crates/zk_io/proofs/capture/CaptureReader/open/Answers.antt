use Rattle.std.proofs.Common.{[], ◌∷◌, length, refl, sym, subst}
use Rattle.std.proofs.lemmas.Result.{err_from_is_err_and}
use Rattle.zk_base.specs.Shelf.{lies_under}
use Rattle.zk_base.specs.declared.endings.Ending.TheVariants.{NoInput}
use Rattle.zk_outcome.specs.declared.found.Found.TheVariants.{Refused}
use Rattle.zk_io.specs.Reading.{FindsCapture, IsJudged}
use Rattle.zk_outcome.specs.declared.stop.Stop.TheVariants.{NoMemory}
use Rattle.zk_outcome.proofs.Doing.{call_out_of_memory, out_of_memory, start_part, start_all, does_both_all, does_both_part}
use Rattle.zk_io.proofs.OpenCapture.{open_input, found_by, found_absent, open_by}
use Rattle.zk_io.proofs.EarlyLaws.{failed_start, stopped_early, found_soon}
use Rattle.zk_io.proofs.capture.CaptureReader.open.Goals as goal

pub returns-in_err-name-clause-stopped : goal.returns-in_err-name-clause-stopped
returns-in_err-name-clause-stopped g c =
    let old = g.S.Shelf.outside c.args.shelf.now in
    let p = err_from_is_err_and c.from_residual.result c.from_residual.ensures.1 in
    rw (p.1, p.2) (out_of_memory (c.args.file.now ∷ []) [] [] old old refl)

pub read_front-requires-clause-input : goal.read_front-requires-clause-input
read_front-requires-clause-input g c = open_input (g.S.Shelf.outside c.args.shelf.now) (g.S.Shelf.outside c.start.new.self) c.args.file.now c.in-Open.ensures.leaves

pub returns-in_err-front-in-Open-clause-stopped : goal.returns-in_err-front-in-Open-clause-stopped
returns-in_err-front-in-Open-clause-stopped g c =
    let old = g.S.Shelf.outside c.args.shelf.now in
    let mid = g.S.Shelf.outside c.start.new.self in
    let new = g.S.Shelf.outside c.read_front.new.shelf in
    let name = c.args.file.now in
    let exit = c.from_residual-in_err-front-in-Open in
    let p = err_from_is_err_and exit.result exit.ensures.1 in
    rw (p.1, p.2) (does_both_part (name ∷ []) [] [] [] [] old mid c.in_err-front-in-Open.field-0.0 new
    (start_all name old mid c.in-Open.ensures.leaves).all c.in_err-front-in-Open.ensures.stopped)

pub returns-in_err-judge-in-Open-clause-stopped : goal.returns-in_err-judge-in-Open-clause-stopped
returns-in_err-judge-in-Open-clause-stopped g c =
    let old = g.S.Shelf.outside c.args.shelf.now in
    let mid = g.S.Shelf.outside c.start.new.self in
    let new = g.S.Shelf.outside c.read_front.new.shelf in
    let name = c.args.file.now in
    let all = does_both_all (name ∷ []) [] [] [] [] [] old mid new (start_all name old mid c.in-Open.ensures.leaves) c.in_ok-front-in-Open.ensures.read in
    let exit = c.from_residual-in_err-judge-in-Open in
    let p = err_from_is_err_and exit.result exit.ensures.1 in
    rw (p.1, p.2) (does_both_part (name ∷ []) [] [] [] [] old new NoMemory new all.all (out_of_memory [] [] [] new new refl))

pub returns-in_ok-judge-in-Open-clause-found : goal.returns-in_ok-judge-in-Open-clause-found
returns-in_ok-judge-in-Open-clause-found g c =
    let found = c.in_ok-judge-in-Open.field-0 in
    let front = c.in_ok-front-in-Open.front in
    let judges = subst (λ name. IsJudged name front found) c.in_ok-name.ensures (subst (λ bytes. IsJudged c.in_ok-name.name bytes found) c.as_slice.ensures c.in_ok-judge-in-Open.ensures) in
    found_by c.args.file.now front (g.S.Shelf.outside c.args.shelf.now) (g.S.Shelf.outside c.start.new.self) (g.S.Shelf.outside c.read_front.new.shelf) found
    c.in-Open.ensures.leaves c.in_ok-front-in-Open.ensures.read c.in_ok-front-in-Open.ensures.front c.in_ok-front-in-Open.ensures.judged judges

pub returns-in_ok-judge-in-Open-clause-input : goal.returns-in_ok-judge-in-Open-clause-input
returns-in_ok-judge-in-Open-clause-input g c = open_by c.in_ok-judge-in-Open.field-0 (g.S.Shelf.outside c.read_front.new.shelf) c.in_ok-front-in-Open.ensures.input

pub returns-in-Absent-clause-found : goal.returns-in-Absent-clause-found
returns-in-Absent-clause-found g c =
    let old = g.S.Shelf.outside c.args.shelf.now in
    let new = g.S.Shelf.outside c.start.new.self in
    subst (λ name. FindsCapture c.args.file.now old (Refused (NoInput name)) new) (sym c.in_ok-name.ensures) (found_absent c.args.file.now old new c.in-Absent.ensures.leaves)

pub returns-in-Failed-clause-stopped : goal.returns-in-Failed-clause-stopped
returns-in-Failed-clause-stopped g c =
    start_part c.args.file.now (g.S.Shelf.outside c.args.shelf.now) (g.S.Shelf.outside c.start.new.self) c.in-Failed.ensures.leaves

pub returns-in-NoMemory-clause-stopped : goal.returns-in-NoMemory-clause-stopped
returns-in-NoMemory-clause-stopped g c =
    call_out_of_memory (c.args.file.now ∷ []) [] [] (g.S.Shelf.outside c.args.shelf.now) (g.S.Shelf.outside c.start.new.self) c.in-NoMemory.ensures.leaves

pub returns-in_err-name-clause-early : goal.returns-in_err-name-clause-early
returns-in_err-name-clause-early g c =
    let p = err_from_is_err_and c.from_residual.result c.from_residual.ensures.1 in
    rw (p.1, p.2) tt

pub returns-in_err-front-in-Open-clause-early : goal.returns-in_err-front-in-Open-clause-early
returns-in_err-front-in-Open-clause-early g c =
    let exit = c.from_residual-in_err-front-in-Open in
    let p = err_from_is_err_and exit.result exit.ensures.1 in
    rw (p.1, p.2) (stopped_early c.args.file.now (g.S.Shelf.outside c.args.shelf.now) (g.S.Shelf.outside c.start.new.self) (g.S.Shelf.outside c.read_front.new.shelf) c.in_err-front-in-Open.field-0.0
    c.in-Open.ensures.leaves c.in_err-front-in-Open.ensures.early)

pub returns-in_err-judge-in-Open-clause-early : goal.returns-in_err-judge-in-Open-clause-early
returns-in_err-judge-in-Open-clause-early g c =
    let exit = c.from_residual-in_err-judge-in-Open in
    let p = err_from_is_err_and exit.result exit.ensures.1 in
    rw (p.1, p.2) tt

pub returns-in_ok-judge-in-Open-clause-soon : goal.returns-in_ok-judge-in-Open-clause-soon
returns-in_ok-judge-in-Open-clause-soon g c =
    let found = c.in_ok-judge-in-Open.field-0 in
    let front = c.in_ok-front-in-Open.front in
    let judges = subst (λ name. IsJudged name front found) c.in_ok-name.ensures (subst (λ bytes. IsJudged c.in_ok-name.name bytes found) c.as_slice.ensures c.in_ok-judge-in-Open.ensures) in
    found_soon c.args.file.now front (length c.args.chunk.now) (g.S.Shelf.outside c.args.shelf.now) (g.S.Shelf.outside c.start.new.self) (g.S.Shelf.outside c.read_front.new.shelf) found
    c.in-Open.ensures.leaves c.in_ok-front-in-Open.ensures.front c.in_ok-front-in-Open.ensures.soon judges

pub returns-in-Failed-clause-early : goal.returns-in-Failed-clause-early
returns-in-Failed-clause-early g c =
    let old = g.S.Shelf.outside c.args.shelf.now in
    failed_start c.args.file.now (lies_under old.inputs c.args.file.now) old (g.S.Shelf.outside c.start.new.self) c.in-Failed.ensures.leaves
