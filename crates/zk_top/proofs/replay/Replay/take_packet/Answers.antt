use Rattle.std.proofs.Common.{[], ◌∷◌, ◌++◌, false, refl}
use Rattle.std.proofs.lemmas.Result.{err_from_is_err_and, IfOk-weaker, IfErr-weaker}
use Rattle.zk_events.specs.Run.{Begun}
use Rattle.zk_base.specs.Captured.{captured}
use Rattle.zk_top.specs.Replay.{items_in, output_at}
use Rattle.zk_top.proofs.ItemLemmas.{items_begin, bounded_moment}
use Rattle.zk_top.proofs.Taking.{taken_without_memory}
use Rattle.zk_top.proofs.Replaying.{comes_given, given_further}
use Rattle.zk_top.proofs.replay.Replay.take_packet.Goals as goal

pub packet-requires : goal.packet-requires
packet-requires g c = record {
  early = (bounded_moment (captured c.args.link c.args.packet) c.requires.bounded).0;
  late = (bounded_moment (captured c.args.link c.args.packet) c.requires.bounded).1;
  captured = c.requires.bounded.captured;
}

pub returns-in_err-packet-clause-stopped : goal.returns-in_err-packet-clause-stopped
returns-in_err-packet-clause-stopped g c =
    let old = g.S.Shelf.outside c.args.shelf.now in
    let packet = captured c.args.link c.args.packet in
    let p = err_from_is_err_and c.from_residual.result c.from_residual.ensures.1 in
    rw (p.1, p.2) (λ first plan packets played.
    let given = items_in plan packets false in
    let all = items_in plan (packets ++ packet ∷ []) false in
    taken_without_memory first (output_at plan.program plan.budget (Begun given)) (output_at plan.program plan.budget (Begun all)) c.args.self.now.player.sink old
    (comes_given first plan packets given false c.args.self.now old played)
    (given_further c.lines_stay.ensures.items plan.program plan.budget given all (items_begin c.items_stay.ensures plan.options packets (packet ∷ []) false)))

pub returns-clause-after : goal.returns-clause-after
returns-clause-after g c =
    let packet = captured c.args.link c.args.packet in
    IfOk-weaker c.take_items.result _ _ (λ end after first plan packets played.
    let given = items_in plan packets false in
    after first plan (packets ++ packet ∷ []) given false (record {
      link = c.args.link;
      traffic = c.in_ok-packet.ensures.taken _ (c.set_link.ensures.stands _ played.traffic) refl;
      begins = items_begin c.items_stay.ensures plan.options packets (packet ∷ []) false;
      plays = played.plays;
    })) c.take_items.ensures.after

pub returns-clause-stopped : goal.returns-clause-stopped
returns-clause-stopped g c =
    let packet = captured c.args.link c.args.packet in
    IfErr-weaker c.take_items.result _ _ (λ stop stopped first plan packets played.
    let given = items_in plan packets false in
    stopped first plan (packets ++ packet ∷ []) given false (record {
      link = c.args.link;
      traffic = c.in_ok-packet.ensures.taken _ (c.set_link.ensures.stands _ played.traffic) refl;
      begins = items_begin c.items_stay.ensures plan.options packets (packet ∷ []) false;
      plays = played.plays;
    })) c.take_items.ensures.stopped
