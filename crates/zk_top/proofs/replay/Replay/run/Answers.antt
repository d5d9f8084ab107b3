use Rattle.std.proofs.Common.{[], true, false, sym, subst}
use Rattle.std.proofs.lemmas.Result.{err_from_is_err_and, IfOk-weaker, IfErr-weaker}
use Rattle.zk_outcome.specs.Prefix.{IsPrefix}
use Rattle.zk_outcome.proofs.Doing.{prefix_none}
use Rattle.zk_top.specs.Replay.{After, HasFlooded, items_in, output_over}
use Rattle.zk_top.specs.Sink.{TakesSome}
use Rattle.zk_io.proofs.CaptureReading.{reading_on, capture_begun, over_capture_begun}
use Rattle.zk_top.proofs.ItemLemmas.{items_begin}
use Rattle.zk_top.proofs.Replaying.{part_to_end, flood_further, flooded_run}
use Rattle.zk_top.proofs.replay.Replay.run.Goals as goal

pub returns-in_err-begin-clause-stopped : goal.returns-in_err-begin-clause-stopped
returns-in_err-begin-clause-stopped g c =
    let old = g.S.Shelf.outside c.args.shelf.now in
    let new = g.S.Shelf.outside c.begin.new.shelf in
    let stop = c.in_err-begin.field-0.0 in
    let p = err_from_is_err_and c.from_residual.result c.from_residual.ensures.1 in
    rw (p.1, p.2) (λ first plan whole bytes comes is.
    over_capture_begun whole bytes [] c.args.reader.now old (λ ps. TakesSome (output_over plan ps) first stop new) is (λ others.
    part_to_end c.lines_stay.ensures.end plan.program plan.budget [] (items_in plan others true) _ first stop new
    (prefix_none (items_in plan others true)) (c.in_err-begin.ensures.stopped first plan comes)))

pub returns-in-Done-clause-ran : goal.returns-in-Done-clause-ran
returns-in-Done-clause-ran g c =
    let old = g.S.Shelf.outside c.args.shelf.now in
    let mid = g.S.Shelf.outside c.begin.new.shelf in
    IfOk-weaker c.run_packets.result _ _ (λ end ran first plan whole bytes comes is.
    ran first plan whole bytes (subst (λ end. After first plan [] false end c.begin.new.self mid) c.in-Done.is (c.in_ok-begin.ensures.after first plan comes))
    (reading_on whole bytes [] c.args.reader.now old mid is c.in_ok-begin.ensures.input)) c.run_packets.ensures.ran

pub returns-in-Done-clause-stopped : goal.returns-in-Done-clause-stopped
returns-in-Done-clause-stopped g c =
    let old = g.S.Shelf.outside c.args.shelf.now in
    let mid = g.S.Shelf.outside c.begin.new.shelf in
    IfErr-weaker c.run_packets.result _ _ (λ stop stopped first plan whole bytes comes is.
    stopped first plan whole bytes (subst (λ end. After first plan [] false end c.begin.new.self mid) c.in-Done.is (c.in_ok-begin.ensures.after first plan comes))
    (reading_on whole bytes [] c.args.reader.now old mid is c.in_ok-begin.ensures.input)) c.run_packets.ensures.stopped

pub returns-in-Flood-clause-ran : goal.returns-in-Flood-clause-ran
returns-in-Flood-clause-ran g c first plan whole bytes comes is =
    let old = g.S.Shelf.outside c.args.shelf.now in
    let new = g.S.Shelf.outside c.begin.new.shelf in
    let moment = c.in-Flood.moment in
    let after : HasFlooded first plan [] false moment c.begin.new.self new = subst (λ end. After first plan [] false end c.begin.new.self new) c.in-Flood.is (c.in_ok-begin.ensures.after first plan comes) in
    let (all, others, ending, capture, same) = capture_begun whole bytes [] c.args.reader.now old is in
    let prefix : IsPrefix (items_in plan [] false) (items_in plan all true) =
    subst (λ ps. IsPrefix (items_in plan [] false) (items_in plan ps true)) (sym same) (items_begin c.items_stay.ensures plan.options [] others true) in
    flooded_run first plan whole all ending moment c.begin.new.self c.args.reader.now new capture (flood_further first plan [] all false true moment c.begin.new.self new after prefix)
