use Rattle.std.proofs.Common.{[], false, refl, sym, subst}
use Rattle.std.proofs.lemmas.Result.{IfOk-weaker}
use Rattle.zk_events.specs.Run.{New}
use Rattle.zk_outcome.proofs.Doing.{does_nothing_without_fault}
use Rattle.zk_top.specs.Replay.{Comes, Plan}
use Rattle.zk_top.specs.Sink.{Beginning, CanTake, Counted}
use Rattle.zk_top.proofs.replay.count_rows.Goals as goal

pub count-requires-clause-ready : goal.count-requires-clause-ready
count-requires-clause-ready g c =
    let old = g.S.Shelf.outside c.args.shelf.now in
    subst (λ replay. CanTake replay.player.sink old) (sym c.deref_mut.ensures.value) (subst (λ sink. CanTake sink old) (sym c.in_ok-replay.ensures.sink) tt)

pub returns : goal.returns
returns g c = IfOk-weaker c.count.result _ _ (λ counted does program whole bytes are reading.
    let old = g.S.Shelf.outside c.args.shelf.now in
    let plan : Plan = record { options = c.args.options; program = program; budget = c.args.budget } in
    let first : Beginning = record { outside = old; target = Counted } in
    let begins : Comes first plan [] [] false New c.in_ok-replay.replay.value old =
    (c.in_ok-replay.ensures.comes first program old are
    (refl, record { counts_are = c.new.ensures; does = record { all = does_nothing_without_fault old; present = refl } })) in
    does first plan whole bytes refl (subst (λ replay. Comes first plan [] [] false New replay old) (sym c.deref_mut.ensures.value) begins) reading) c.count.ensures
