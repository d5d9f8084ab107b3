use Rattle.std.proofs.Common.{refl, sym, ap, subst, ◌∙◌}
use Rattle.std.proofs.lemmas.Result.{err_from_is_err_and}
use Rattle.zk_base.specs.Shelf.{lies_under}
use Rattle.zk_outcome.specs.declared.stop.Stop.TheVariants.{NoMemory}
use Rattle.zk_base.specs.NetworkTime.{now as network_time}
use Rattle.zk_top.specs.Outcome.{run_report}
use Rattle.zk_io.specs.Reading.{FindsCapture, OpensCapture}
use Rattle.zk_top.specs.Replay.{IsRead, came_of, files_of, output_over}
use Rattle.zk_top.proofs.Giving.{memory_behind_all}
use Rattle.zk_io.proofs.OpenCapture.{capture_found}
use Rattle.zk_top.proofs.OverCapture.{broken_before, broken_within, capture_ends, flood_ends, fulfilled, fulfilled_refused, command_refusal}
use Rattle.zk_top.proofs.RunLemmas.{plan_of, replayed_progress, replayed_report, ends_through, ends_flooded}
use Rattle.zk_top.proofs.running.run_through.Goals as goal

pub returns-in_err-reader-clause-stopped : goal.returns-in_err-reader-clause-stopped
returns-in_err-reader-clause-stopped g c =
    let file = c.args.file.now in
    let p = err_from_is_err_and c.from_residual.result c.from_residual.ensures.1 in
    rw (p.1, p.2) (λ program runs. broken_before (run_report file c.args.settings program) file (g.S.Shelf.outside c.args.shelf.now) c.in_err-reader.field-0.0 (g.S.Shelf.outside c.open.new.shelf)
    c.in_err-reader.ensures.stopped)

pub returns-in-Refused-clause-done : goal.returns-in-Refused-clause-done
returns-in-Refused-clause-done g c = λ program runs.
    let old = g.S.Shelf.outside c.args.shelf.now in
    let new = g.S.Shelf.outside c.open.new.shelf in
    let file = c.args.file.now in
    fulfilled_refused (run_report file c.args.settings program) file old c.in-Refused.ending new (subst (λ found. FindsCapture file old found new) c.in-Refused.is c.in_ok-reader.ensures.found)

pub returns-in-Refused-clause-command : goal.returns-in-Refused-clause-command
returns-in-Refused-clause-command g c =
    let old = g.S.Shelf.outside c.args.shelf.now in
    let new = g.S.Shelf.outside c.open.new.shelf in
    let found = subst (λ found. FindsCapture c.args.file.now old found new) c.in-Refused.is c.in_ok-reader.ensures.found in
    command_refusal c.in-Refused.ending (found.refusal c.in-Refused.ending refl)

pub returns-in_err-replay_capture-clause-stopped : goal.returns-in_err-replay_capture-clause-stopped
returns-in_err-replay_capture-clause-stopped g c =
    let old = g.S.Shelf.outside c.args.shelf.now in
    let mid = g.S.Shelf.outside c.open.new.shelf in
    let new = g.S.Shelf.outside c.replay_capture.new.shelf in
    let file = c.args.file.now in
    let settings = c.args.settings in
    let runnable = c.args.runnable in
    let reader = c.in-Accepted.reader in
    let opens : OpensCapture file old reader mid = subst (λ found. FindsCapture file old found mid) c.in-Accepted.is c.in_ok-reader.ensures.found in
    let exit = c.from_residual-in_err-replay_capture in
    let p = err_from_is_err_and exit.result exit.ensures.1 in
    rw (p.1, p.2) (λ program runs.
    let plan = plan_of settings program runnable.packets in
    let part = c.in_err-replay_capture.ensures.stopped program (lies_under old.inputs file) opens.bytes runs.code opens.reading in
    broken_within (run_report file settings program) file (record { records = part.records; ending = part.ending }) (output_over plan part.records).text (files_of plan part.records) old mid
    c.in_err-replay_capture.field-0.0 new
    (capture_found file old reader mid part.records part.ending opens part.all) (replayed_report file settings program runnable old reader mid part.records part.ending runs opens) part.there)

pub returns-in_err-end_of-in-Through-clause-stopped : goal.returns-in_err-end_of-in-Through-clause-stopped
returns-in_err-end_of-in-Through-clause-stopped g c =
    let old = g.S.Shelf.outside c.args.shelf.now in
    let mid = g.S.Shelf.outside c.open.new.shelf in
    let new = g.S.Shelf.outside c.replay_capture.new.shelf in
    let file = c.args.file.now in
    let settings = c.args.settings in
    let runnable = c.args.runnable in
    let reader = c.in-Accepted.reader in
    let opens : OpensCapture file old reader mid = subst (λ found. FindsCapture file old found mid) c.in-Accepted.is c.in_ok-reader.ensures.found in
    let whole = lies_under old.inputs file in
    let exit = c.from_residual-in_err-end_of-in-Through in
    let p = err_from_is_err_and exit.result exit.ensures.1 in
    rw (p.1, p.2) (λ program runs.
    let plan = plan_of settings program runnable.packets in
    let all = c.in_ok-replay_capture.ensures.replays program whole opens.bytes runs.code opens.reading in
    broken_within (run_report file settings program) file (record { records = all.records; ending = all.ending }) (output_over plan all.records).text (files_of plan all.records) old mid NoMemory new
    (capture_found file old reader mid all.records all.ending opens all.all) (replayed_report file settings program runnable old reader mid all.records all.ending runs opens)
    (memory_behind_all (output_over plan all.records).text (files_of plan all.records) mid new all.gives))

pub returns-in-Through-clause-done : goal.returns-in-Through-clause-done
returns-in-Through-clause-done g c program runs =
    let old = g.S.Shelf.outside c.args.shelf.now in
    let mid = g.S.Shelf.outside c.open.new.shelf in
    let new = g.S.Shelf.outside c.replay_capture.new.shelf in
    let file = c.args.file.now in
    let settings = c.args.settings in
    let runnable = c.args.runnable in
    let reader = c.in-Accepted.reader in
    let opens : OpensCapture file old reader mid = subst (λ found. FindsCapture file old found mid) c.in-Accepted.is c.in_ok-reader.ensures.found in
    let whole = lies_under old.inputs file in
    let plan = plan_of settings program runnable.packets in
    let all = c.in_ok-replay_capture.ensures.replays program whole opens.bytes runs.code opens.reading in
    let (bytes, reading, through) = subst (λ came. IsRead came whole all.records c.replay_capture.new.reader new) c.in-Through.is all.read in
    let capture = c.ending.ensures whole bytes all.records new reading through in
    let ends = capture_ends file c.in_ok-end_of-in-Through.field-0 c.ending.result c.in_ok-end_of-in-Through.ensures in
    fulfilled (run_report file settings program) file (record { records = all.records; ending = c.ending.result }) (output_over plan all.records).text (files_of plan all.records) old mid
    c.in_ok-end_of-in-Through.field-0 new
    (capture_found file old reader mid all.records c.ending.result opens capture) ends
    (λ inputs told. (
      replayed_report file settings program runnable old reader mid all.records c.ending.result runs opens inputs told,
      c.in_ok-end_of-in-Through.ensures
          ∙ sym (ends_through file c.ending.result (network_time all.records) _ _
          (sym c.in-Through.is ∙ all.ends ∙ ap (came_of (network_time all.records)) (replayed_progress file settings program runnable old reader mid all.records runs opens inputs told))),
    )) all.gives

pub returns-clause-done : goal.returns-clause-done
returns-clause-done g c program runs =
    let old = g.S.Shelf.outside c.args.shelf.now in
    let mid = g.S.Shelf.outside c.open.new.shelf in
    let new = g.S.Shelf.outside c.replay_capture.new.shelf in
    let file = c.args.file.now in
    let settings = c.args.settings in
    let runnable = c.args.runnable in
    let reader = c.in-Accepted.reader in
    let opens : OpensCapture file old reader mid = subst (λ found. FindsCapture file old found mid) c.in-Accepted.is c.in_ok-reader.ensures.found in
    let whole = lies_under old.inputs file in
    let plan = plan_of settings program runnable.packets in
    let all = c.in_ok-replay_capture.ensures.replays program whole opens.bytes runs.code opens.reading in
    fulfilled (run_report file settings program) file (record { records = all.records; ending = all.ending }) (output_over plan all.records).text (files_of plan all.records) old mid _ new
    (capture_found file old reader mid all.records all.ending opens all.all) (flood_ends c.in-Flooded.moment)
    (λ inputs told. (
      replayed_report file settings program runnable old reader mid all.records all.ending runs opens inputs told,
      sym (ends_flooded file all.ending (network_time all.records) c.in-Flooded.moment _
          (sym c.in-Flooded.is ∙ all.ends ∙ ap (came_of (network_time all.records)) (replayed_progress file settings program runnable old reader mid all.records runs opens inputs told))),
    )) all.gives
