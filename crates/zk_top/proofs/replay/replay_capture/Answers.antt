use Rattle.std.proofs.Common.{[], false, refl, sym, subst}
use Rattle.std.proofs.lemmas.Result.{err_from_is_err_and, IfOk-weaker, IfErr-weaker}
use Rattle.zk_outcome.specs.declared.stop.Stop.TheVariants.{NoMemory}
use Rattle.zk_outcome.proofs.Doing.{out_of_memory}
use Rattle.zk_events.specs.Run.{New}
use Rattle.zk_top.specs.Replay.{Comes, Plan, files_of, output_over}
use Rattle.zk_top.specs.Sink.{Beginning, CanTake, Written}
use Rattle.zk_top.specs.Writing.{GivesPart}
use Rattle.zk_io.proofs.CaptureReading.{over_capture_begun}
use Rattle.zk_top.proofs.Giving.{nothing_given}
use Rattle.zk_top.proofs.replay.replay_capture.Goals as goal

pub returns-in_err-writer-clause-stopped : goal.returns-in_err-writer-clause-stopped
returns-in_err-writer-clause-stopped g c =
    let old = g.S.Shelf.outside c.args.shelf.now in
    let p = err_from_is_err_and c.from_residual.result c.from_residual.ensures.1 in
    rw (p.1, p.2) (λ program whole bytes are reading.
    let plan : Plan = record { options = c.args.options; program = program; budget = c.args.budget } in
    over_capture_begun whole bytes [] c.args.reader.now old (λ ps. GivesPart (output_over plan ps).text (files_of plan ps) old NoMemory old) reading
    (λ packets. nothing_given (output_over plan packets).text (files_of plan packets) old NoMemory old (out_of_memory [] [] [] old old refl)))

pub returns-in_err-replay-clause-stopped : goal.returns-in_err-replay-clause-stopped
returns-in_err-replay-clause-stopped g c =
    let old = g.S.Shelf.outside c.args.shelf.now in
    let p = err_from_is_err_and c.from_residual-in_err-replay.result c.from_residual-in_err-replay.ensures.1 in
    rw (p.1, p.2) (λ program whole bytes are reading.
    let plan : Plan = record { options = c.args.options; program = program; budget = c.args.budget } in
    over_capture_begun whole bytes [] c.args.reader.now old (λ ps. GivesPart (output_over plan ps).text (files_of plan ps) old NoMemory old) reading
    (λ packets. nothing_given (output_over plan packets).text (files_of plan packets) old NoMemory old (out_of_memory [] [] [] old old refl)))

pub play-requires-clause-ready : goal.play-requires-clause-ready
play-requires-clause-ready g c =
    let old = g.S.Shelf.outside c.args.shelf.now in
    subst (λ replay. CanTake replay.player.sink old) (sym c.deref_mut.ensures.value) (subst (λ sink. CanTake sink old) (sym c.in_ok-replay.ensures.sink) (c.in_ok-writer.ensures.ready old))

pub returns-clause-replays : goal.returns-clause-replays
returns-clause-replays g c = IfOk-weaker c.play.result _ _ (λ came does program whole bytes are reading.
    let old = g.S.Shelf.outside c.args.shelf.now in
    let plan : Plan = record { options = c.args.options; program = program; budget = c.args.budget } in
    let first : Beginning = record { outside = old; target = Written } in
    let begins : Comes first plan [] [] false New c.in_ok-replay.replay.value old =
    (c.in_ok-replay.ensures.comes first program old are (refl, c.in_ok-writer.ensures.given old)) in
    does first plan whole bytes refl (subst (λ replay. Comes first plan [] [] false New replay old) (sym c.deref_mut.ensures.value) begins) reading) c.play.ensures.replays

pub returns-clause-stopped : goal.returns-clause-stopped
returns-clause-stopped g c = IfErr-weaker c.play.result _ _ (λ stop does program whole bytes are reading.
    let old = g.S.Shelf.outside c.args.shelf.now in
    let plan : Plan = record { options = c.args.options; program = program; budget = c.args.budget } in
    let first : Beginning = record { outside = old; target = Written } in
    let begins : Comes first plan [] [] false New c.in_ok-replay.replay.value old =
    (c.in_ok-replay.ensures.comes first program old are (refl, c.in_ok-writer.ensures.given old)) in
    does first plan whole bytes refl (subst (λ replay. Comes first plan [] [] false New replay old) (sym c.deref_mut.ensures.value) begins) reading) c.play.ensures.stopped
