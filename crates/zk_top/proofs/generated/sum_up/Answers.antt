use Rattle.std.proofs.Common.{sym, subst, ◌∙◌}
use Rattle.zk_base.specs.Shelf.{lies_under}
use Rattle.zk_base.specs.NetworkTime.{now as network_time}
use Rattle.zk_command.specs.Command.{no_options, settings_of}
use Rattle.zk_top.specs.Outcome.{generated_name}
use Rattle.zk_io.specs.Reading.{FindsCapture, OpensCapture}
use Rattle.zk_top.specs.Replay.{IsRead, progress_over}
use Rattle.zk_top.proofs.OverGenerated.{flooded_summary, played_summary, refused_summary, through_summary}
use Rattle.zk_top.proofs.RunLemmas.{plan_of}
use Rattle.zk_top.proofs.generated.sum_up.Goals as goal

pub returns-in-Refused : goal.returns-in-Refused
returns-in-Refused g c program inputs whole runs told there sized =
    let old = g.S.Shelf.outside c.args.shelf.now in
    let new = g.S.Shelf.outside c.open.new.shelf in
    refused_summary program inputs whole c.ending_so.result old new c.in-Refused.ending told there
    (subst (λ found. FindsCapture generated_name old found new) c.in-Refused.is c.in_ok-reader.ensures.found) c.ending_so.ensures.ending c.ending_so.ensures.said

pub returns-in-Through : goal.returns-in-Through
returns-in-Through g c program inputs whole runs told there sized =
    let old = g.S.Shelf.outside c.args.shelf.now in
    let mid = g.S.Shelf.outside c.open.new.shelf in
    let new = g.S.Shelf.outside c.count_rows.new.shelf in
    let reader = c.in-Accepted.reader in
    let runnable = c.args.runnable in
    let opens : OpensCapture generated_name old reader mid = subst (λ found. FindsCapture generated_name old found mid) c.in-Accepted.is c.in_ok-reader.ensures.found in
    let file = lies_under old.inputs generated_name in
    let plan = plan_of (settings_of no_options) program runnable.packets in
    let all = c.in_ok-came.ensures program file opens.bytes runs.code opens.reading in
    let (bytes, reading, through) = subst (λ came. IsRead came file all.records c.count_rows.new.reader new) c.in-Through.is all.read in
    let capture = c.ending.ensures file bytes all.records new reading through in
    played_summary program runnable inputs whole (record { ending = c.in_ok-ending-in-Through.ending; said = c.in_ok-said-in-Through.said }) old mid reader all.records c.ending.result told there runs opens capture
    (λ progress is. through_summary all.records c.args.bytes c.passed.result whole c.in_ok-came.rows c.ending.result c.in_ok-ending-in-Through.ending c.in_ok-said-in-Through.said.items (network_time all.records) c.in-Through.field-0
    (progress_over plan all.records) progress (sym c.in-Through.is ∙ all.ends) is (c.passed.ensures file bytes all.records new reading) sized all.rows_are c.in_ok-ending-in-Through.ensures c.in_ok-said-in-Through.ensures)

pub returns : goal.returns
returns g c program inputs whole runs told there sized =
    let old = g.S.Shelf.outside c.args.shelf.now in
    let mid = g.S.Shelf.outside c.open.new.shelf in
    let reader = c.in-Accepted.reader in
    let runnable = c.args.runnable in
    let opens : OpensCapture generated_name old reader mid = subst (λ found. FindsCapture generated_name old found mid) c.in-Accepted.is c.in_ok-reader.ensures.found in
    let file = lies_under old.inputs generated_name in
    let plan = plan_of (settings_of no_options) program runnable.packets in
    let all = c.in_ok-came.ensures program file opens.bytes runs.code opens.reading in
    played_summary program runnable inputs whole c.ending_so-in-Flooded.result old mid reader all.records all.ending told there runs opens all.all
    (λ progress is.
    let (ends, says) = flooded_summary all.records whole all.ending (network_time all.records) c.in-Flooded.moment (progress_over plan all.records) progress (sym c.in-Flooded.is ∙ all.ends) is in
    (c.ending_so-in-Flooded.ensures.ending ∙ ends, c.ending_so-in-Flooded.ensures.said ∙ says))
