use Rattle.std.proofs.Common.{refl, sym, ap, subst}
use Rattle.std.proofs.lemmas.Result.{err_from_is_err_and}
use Rattle.zk_base.specs.Shelf.{lies_under}
use Rattle.zk_outcome.specs.declared.stop.Stop.TheVariants.{NoMemory}
use Rattle.zk_top.specs.Outcome.{list_report, no_files}
use Rattle.zk_top.specs.Line.{capture_lines}
use Rattle.zk_io.specs.Reading.{FindsCapture, OpensCapture}
use Rattle.zk_io.proofs.OpenCapture.{capture_found}
use Rattle.zk_top.proofs.OverCapture.{broken_before, broken_within, capture_ends, fulfilled, fulfilled_refused, command_refusal, said_alone, said_part_alone}
use Rattle.zk_io.proofs.Said.{memory_behind}
use Rattle.zk_top.proofs.listing.list_through.Goals as goal

pub returns-in_err-reader-clause-stopped : goal.returns-in_err-reader-clause-stopped
returns-in_err-reader-clause-stopped g c =
    let p = err_from_is_err_and c.from_residual.result c.from_residual.ensures.1 in
    rw (p.1, p.2) (broken_before (list_report c.args.file.now) c.args.file.now (g.S.Shelf.outside c.args.shelf.now) c.in_err-reader.field-0.0 (g.S.Shelf.outside c.open.new.shelf)
    c.in_err-reader.ensures.stopped)

pub returns-in_err-list_items-in-Accepted-clause-stopped : goal.returns-in_err-list_items-in-Accepted-clause-stopped
returns-in_err-list_items-in-Accepted-clause-stopped g c =
    let old = g.S.Shelf.outside c.args.shelf.now in
    let mid = g.S.Shelf.outside c.open.new.shelf in
    let new = g.S.Shelf.outside c.list_items.new.shelf in
    let file = c.args.file.now in
    let reader = c.in-Accepted.reader in
    let opens : OpensCapture file old reader mid = subst (λ found. FindsCapture file old found mid) c.in-Accepted.is c.in_ok-reader.ensures.found in
    let exit = c.from_residual-in_err-list_items-in-Accepted in
    let p = err_from_is_err_and exit.result exit.ensures.1 in
    let part = c.in_err-list_items-in-Accepted.ensures.stopped (lies_under old.inputs file) opens.bytes opens.reading in
    rw (p.1, p.2) (broken_within (list_report file) file (record { records = part.records; ending = part.ending }) (capture_lines part.records) no_files old mid c.in_err-list_items-in-Accepted.field-0.0 new
    (capture_found file old reader mid part.records part.ending opens part.all)
    (λ inputs told. record { said = refl; files = refl })
    (said_part_alone (capture_lines part.records) mid c.in_err-list_items-in-Accepted.field-0.0 new part.there))

pub returns-in_err-end_of-in-Accepted-clause-stopped : goal.returns-in_err-end_of-in-Accepted-clause-stopped
returns-in_err-end_of-in-Accepted-clause-stopped g c =
    let old = g.S.Shelf.outside c.args.shelf.now in
    let mid = g.S.Shelf.outside c.open.new.shelf in
    let new = g.S.Shelf.outside c.list_items.new.shelf in
    let file = c.args.file.now in
    let reader = c.in-Accepted.reader in
    let opens : OpensCapture file old reader mid = subst (λ found. FindsCapture file old found mid) c.in-Accepted.is c.in_ok-reader.ensures.found in
    let exit = c.from_residual-in_err-end_of-in-Accepted in
    let p = err_from_is_err_and exit.result exit.ensures.1 in
    let whole = lies_under old.inputs file in
    let all = c.in_ok-list_items-in-Accepted.ensures.said whole opens.bytes opens.reading in
    let capture = c.ending.ensures whole all.bytes all.records new all.reading all.through in
    rw (p.1, p.2) (broken_within (list_report file) file (record { records = all.records; ending = c.ending.result }) (capture_lines all.records) no_files old mid NoMemory new
    (capture_found file old reader mid all.records c.ending.result opens capture)
    (λ inputs told. record { said = refl; files = refl })
    (said_part_alone (capture_lines all.records) mid NoMemory new (memory_behind mid (capture_lines all.records) new all.says)))

pub returns-in_ok-end_of-in-Accepted-clause-done : goal.returns-in_ok-end_of-in-Accepted-clause-done
returns-in_ok-end_of-in-Accepted-clause-done g c =
    let old = g.S.Shelf.outside c.args.shelf.now in
    let mid = g.S.Shelf.outside c.open.new.shelf in
    let new = g.S.Shelf.outside c.list_items.new.shelf in
    let file = c.args.file.now in
    let reader = c.in-Accepted.reader in
    let opens : OpensCapture file old reader mid = subst (λ found. FindsCapture file old found mid) c.in-Accepted.is c.in_ok-reader.ensures.found in
    let whole = lies_under old.inputs file in
    let all = c.in_ok-list_items-in-Accepted.ensures.said whole opens.bytes opens.reading in
    let capture = c.ending.ensures whole all.bytes all.records new all.reading all.through in
    fulfilled (list_report file) file (record { records = all.records; ending = c.ending.result }) (capture_lines all.records) no_files old mid c.in_ok-end_of-in-Accepted.field-0 new
    (capture_found file old reader mid all.records c.ending.result opens capture) (capture_ends file c.in_ok-end_of-in-Accepted.field-0 c.ending.result c.in_ok-end_of-in-Accepted.ensures)
    (λ inputs told. (
      record { said = refl; files = refl },
      c.in_ok-end_of-in-Accepted.ensures,
    )) (said_alone (capture_lines all.records) mid new all.says)

pub returns-in-Refused-clause-done : goal.returns-in-Refused-clause-done
returns-in-Refused-clause-done g c =
    let old = g.S.Shelf.outside c.args.shelf.now in
    let new = g.S.Shelf.outside c.open.new.shelf in
    let file = c.args.file.now in
    fulfilled_refused (list_report file) file old c.in-Refused.ending new (subst (λ found. FindsCapture file old found new) c.in-Refused.is c.in_ok-reader.ensures.found)

pub returns-in-Refused-clause-command : goal.returns-in-Refused-clause-command
returns-in-Refused-clause-command g c =
    let old = g.S.Shelf.outside c.args.shelf.now in
    let new = g.S.Shelf.outside c.open.new.shelf in
    let found = subst (λ found. FindsCapture c.args.file.now old found new) c.in-Refused.is c.in_ok-reader.ensures.found in
    command_refusal c.in-Refused.ending (found.refusal c.in-Refused.ending refl)
