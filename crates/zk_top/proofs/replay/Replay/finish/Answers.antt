use Rattle.std.proofs.Common.{true, false, refl, subst}
use Rattle.std.proofs.lemmas.Result.{err_from_is_err_and, IfOk-weaker, IfErr-weaker}
use Rattle.zk_events.specs.Run.{Begun, Ended}
use Rattle.zk_top.specs.Replay.{After, items_in, output_at}
use Rattle.zk_top.proofs.ItemLemmas.{items_end}
use Rattle.zk_top.proofs.Taking.{taken_without_memory}
use Rattle.zk_top.proofs.Replaying.{comes_given, given_to_end, part_to_end, flood_over}
use Rattle.zk_outcome.proofs.Doing.{prefix_all}
use Rattle.zk_top.proofs.replay.Replay.finish.Goals as goal

pub returns-in_err-end-clause-stopped : goal.returns-in_err-end-clause-stopped
returns-in_err-end-clause-stopped g c =
    let old = g.S.Shelf.outside c.args.shelf.now in
    let p = err_from_is_err_and c.from_residual.result c.from_residual.ensures.1 in
    rw (p.1, p.2) (λ first plan packets played.
    let given = items_in plan packets false in
    let all = items_in plan packets true in
    taken_without_memory first (output_at plan.program plan.budget (Begun given)) (output_at plan.program plan.budget (Ended all c.args.last)) c.args.self.now.player.sink old
    (comes_given first plan packets given false c.args.self.now old played)
    (given_to_end c.lines_stay.ensures.end plan.program plan.budget given all c.args.last (items_end c.items_stay.ensures plan.options packets)))

pub returns-in_err-take_items-clause-stopped : goal.returns-in_err-take_items-clause-stopped
returns-in_err-take_items-clause-stopped g c =
    let new = g.S.Shelf.outside c.take_items.new.shelf in
    let exit = c.from_residual-in_err-take_items in
    let p = err_from_is_err_and exit.result exit.ensures.1 in
    rw (p.1, p.2) (λ first plan packets played.
    let given = items_in plan packets false in
    let all = items_in plan packets true in
    part_to_end c.lines_stay.ensures.end plan.program plan.budget all all c.args.last first c.in_err-take_items.field-0.0 new (prefix_all all)
    (c.in_err-take_items.ensures.stopped first plan packets given true (record {
      link = played.link;
      traffic = c.in_ok-end.ensures.ended _ played.traffic refl;
      begins = items_end c.items_stay.ensures plan.options packets;
      plays = played.plays;
    })))

pub returns-in-Done-clause-over : goal.returns-in-Done-clause-over
returns-in-Done-clause-over g c =
    let mid = g.S.Shelf.outside c.take_items.new.shelf in
    IfOk-weaker c.end-in-Done.result _ _ (λ came over first plan packets played.
    let given = items_in plan packets false in
    over first plan packets (subst (λ end. After first plan packets true end c.take_items.new.self mid) c.in-Done.is
    (c.in_ok-take_items.ensures.after first plan packets given true (record {
      link = played.link;
      traffic = c.in_ok-end.ensures.ended _ played.traffic refl;
      begins = items_end c.items_stay.ensures plan.options packets;
      plays = played.plays;
    })))) c.end-in-Done.ensures.over

pub returns-in-Done-clause-stopped : goal.returns-in-Done-clause-stopped
returns-in-Done-clause-stopped g c =
    let mid = g.S.Shelf.outside c.take_items.new.shelf in
    IfErr-weaker c.end-in-Done.result _ _ (λ stop stopped first plan packets played.
    let given = items_in plan packets false in
    stopped first plan packets (subst (λ end. After first plan packets true end c.take_items.new.self mid) c.in-Done.is
    (c.in_ok-take_items.ensures.after first plan packets given true (record {
      link = played.link;
      traffic = c.in_ok-end.ensures.ended _ played.traffic refl;
      begins = items_end c.items_stay.ensures plan.options packets;
      plays = played.plays;
    })))) c.end-in-Done.ensures.stopped

pub returns-in-Flood-clause-over : goal.returns-in-Flood-clause-over
returns-in-Flood-clause-over g c first plan packets played =
    let new = g.S.Shelf.outside c.take_items.new.shelf in
    let given = items_in plan packets false in
    flood_over first plan packets c.in-Flood.moment c.args.last c.take_items.new.self new
    (subst (λ end. After first plan packets true end c.take_items.new.self new) c.in-Flood.is
    (c.in_ok-take_items.ensures.after first plan packets given true (record {
      link = played.link;
      traffic = c.in_ok-end.ensures.ended _ played.traffic refl;
      begins = items_end c.items_stay.ensures plan.options packets;
      plays = played.plays;
    })))
