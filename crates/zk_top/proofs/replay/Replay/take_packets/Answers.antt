use Rattle.std.proofs.Common.{[], ◌∷◌, ◌++◌, false, true, refl, sym, subst, arith}
use Rattle.std.proofs.lemmas.Result.{err_from_is_err_and}
use Rattle.zk_events.specs.Run.{Begun}
use Rattle.zk_base.specs.Captured.{captured}
use Rattle.zk_outcome.specs.Prefix.{IsPrefix}
use Rattle.zk_top.specs.Replay.{After, HasFlooded, HasPlayed, items_in, output_at, output_over}
use Rattle.zk_top.specs.Sink.{TakesSome}
use Rattle.zk_io.proofs.CaptureReading.{reading_on, capture_begun_next, over_capture_begun, over_capture_next, same_place, later_place}
use Rattle.zk_top.proofs.Taking.{taken_and_stopped, can_take_on}
use Rattle.zk_top.proofs.ItemLemmas.{items_begin, next_at, next_now}
use Rattle.zk_top.proofs.Replaying.{comes_given, given_to_end, part_to_end, plays_on, flood_further, no_flood}
use Rattle.zk_top.proofs.replay.Replay.take_packets.Goals as goal

pub packets-init : goal.packets-init
packets-init g c = record {
  under_way = c.requires.under_way;
  ready = c.requires.ready;
  goes_on = λ whole bytes is. (bytes, [], is, refl, λ first plan played. played);
}

pub returns-in_err-fill-clause-stopped : goal.returns-in_err-fill-clause-stopped
returns-in_err-fill-clause-stopped g c =
    let old = g.S.Shelf.outside c.packets.shelf in
    let new = g.S.Shelf.outside c.fill.new.shelf in
    let stop = c.in_err-fill.field-0.0 in
    let p = err_from_is_err_and c.from_residual.result c.from_residual.ensures.1 in
    rw (p.1, p.2) (λ first plan whole bytes played is.
    let (longer, packets, reading, time, goes) = c.packets.invariant.goes_on whole bytes is in
    let given = items_in plan packets false in
    over_capture_begun whole longer packets c.packets.reader old (λ ps. TakesSome (output_over plan ps) first stop new) reading (λ others.
    taken_and_stopped first (output_at plan.program plan.budget (Begun given)) (output_over plan (packets ++ others)) c.packets.self.player.sink old stop new
    (comes_given first plan packets given false c.packets.self old (goes first plan played))
    (given_to_end c.lines_stay.ensures.end plan.program plan.budget given (items_in plan (packets ++ others) true) _
    (items_begin c.items_stay.ensures plan.options packets others true)) c.in_err-fill.ensures.stopped))

pub take_packet-requires : goal.take_packet-requires
take_packet-requires g c = record {
  ready = can_take_on c.packets.self.player.sink (g.S.Shelf.outside c.packets.shelf) (g.S.Shelf.outside c.fill.new.shelf) c.in_ok-fill.ensures.read.all.does.outputs_stay c.packets.invariant.ready;
  bounded = c.packet-packet.ensures.limits c.link.result;
}

pub returns-in_err-end-clause-stopped : goal.returns-in_err-end-clause-stopped
returns-in_err-end-clause-stopped g c =
    let old = g.S.Shelf.outside c.packets.shelf in
    let mid = g.S.Shelf.outside c.fill.new.shelf in
    let new = g.S.Shelf.outside c.take_packet.new.shelf in
    let stop = c.in_err-end.field-0.0 in
    let packet = captured c.link.result c.packet-packet.result in
    let exit = c.from_residual-in_err-end in
    let p = err_from_is_err_and exit.result exit.ensures.1 in
    rw (p.1, p.2) (λ first plan whole bytes played is.
    let (longer, packets, reading, time, goes) = c.packets.invariant.goes_on whole bytes is in
    let (further, filled) = c.in_ok-fill.ensures.goes_on whole longer packets reading in
    let at = next_at further c.fill.new.self c.packet-packet.result c.link.result c.link.ensures.link (c.packet-packet.ensures.captured whole further packets mid filled) in
    let given = items_in plan packets false in
    let here : HasPlayed first plan packets false c.packets.self mid = plays_on first plan packets given false (Begun given) c.packets.self old mid (goes first plan played) c.in_ok-fill.ensures.read in
    let more = packets ++ packet ∷ [] in
    over_capture_next whole further packets packet c.fill.new.self mid (λ ps. TakesSome (output_over plan ps) first stop new) filled at (λ others.
    part_to_end c.lines_stay.ensures.end plan.program plan.budget (items_in plan more false) (items_in plan (more ++ others) true) _ first stop new
    (items_begin c.items_stay.ensures plan.options more others true) (c.in_err-end.ensures.stopped first plan packets here)))

pub returns-in-Flood-clause-came : goal.returns-in-Flood-clause-came
returns-in-Flood-clause-came g c first plan whole bytes played is =
    let old = g.S.Shelf.outside c.packets.shelf in
    let mid = g.S.Shelf.outside c.fill.new.shelf in
    let new = g.S.Shelf.outside c.take_packet.new.shelf in
    let packet = captured c.link.result c.packet-packet.result in
    let (longer, packets, reading, time, goes) = c.packets.invariant.goes_on whole bytes is in
    let (further, filled) = c.in_ok-fill.ensures.goes_on whole longer packets reading in
    let at = next_at further c.fill.new.self c.packet-packet.result c.link.result c.link.ensures.link (c.packet-packet.ensures.captured whole further packets mid filled) in
    let given = items_in plan packets false in
    let here : HasPlayed first plan packets false c.packets.self mid = plays_on first plan packets given false (Begun given) c.packets.self old mid (goes first plan played) c.in_ok-fill.ensures.read in
    let more = packets ++ packet ∷ [] in
    let after : HasFlooded first plan more false c.in-Flood.moment c.take_packet.new.self new = subst (λ end. After first plan more false end c.take_packet.new.self new) c.in-Flood.is (c.in_ok-end.ensures.after first plan packets here) in
    let (all, others, ending, capture, same) = capture_begun_next whole further packets packet c.fill.new.self mid filled at in
    record {
      records = all;
      ending = ending;
      all = capture;
      flooded = flood_further first plan more all false true c.in-Flood.moment c.take_packet.new.self new after
          (subst (λ ps. IsPrefix (items_in plan more false) (items_in plan ps true)) (sym same) (items_begin c.items_stay.ensures plan.options more others true));
    }

pub packets-smaller : goal.packets-smaller
packets-smaller g c =
    let old = g.S.Shelf.outside c.packets.shelf in
    let mid = g.S.Shelf.outside c.fill.new.shelf in
    let packet = captured c.link.result c.packet-packet.result in
    let (whole, bytes, packets, reading) = c.packets.invariant.under_way in
    let (further, filled) = c.in_ok-fill.ensures.goes_on whole bytes packets reading in
    let at = next_at further c.fill.new.self c.packet-packet.result c.link.result c.link.ensures.link (c.packet-packet.ensures.captured whole further packets mid filled) in
    let behind = c.advance.ensures.goes_on whole further packets packet mid filled at in
    let same = same_place whole bytes further packets c.packets.reader c.fill.new.self old mid reading filled in
    let later = later_place whole further packets packet c.fill.new.self c.advance.new.self mid filled behind in
    omega (arith, same, later.0, later.1)

pub packets-preserved : goal.packets-preserved
packets-preserved g c =
    let old = g.S.Shelf.outside c.packets.shelf in
    let mid = g.S.Shelf.outside c.fill.new.shelf in
    let new = g.S.Shelf.outside c.take_packet.new.shelf in
    let packet = captured c.link.result c.packet-packet.result in
    record {
      under_way =
          let (whole, bytes, packets, reading) = c.packets.invariant.under_way in
          let (further, filled) = c.in_ok-fill.ensures.goes_on whole bytes packets reading in
          let at = next_at further c.fill.new.self c.packet-packet.result c.link.result c.link.ensures.link (c.packet-packet.ensures.captured whole further packets mid filled) in
          let behind = c.advance.ensures.goes_on whole further packets packet mid filled at in
          (whole, further, packets ++ packet ∷ [], reading_on whole further (packets ++ packet ∷ []) c.advance.new.self mid new behind c.in_ok-end.ensures.input);
      ready = c.in_ok-end.ensures.ready;
      goes_on = λ whole bytes is.
          let (longer, packets, reading, time, goes) = c.packets.invariant.goes_on whole bytes is in
          let (further, filled) = c.in_ok-fill.ensures.goes_on whole longer packets reading in
          let at = next_at further c.fill.new.self c.packet-packet.result c.link.result c.link.ensures.link (c.packet-packet.ensures.captured whole further packets mid filled) in
          let behind = c.advance.ensures.goes_on whole further packets packet mid filled at in (
            further,
            packets ++ packet ∷ [],
            reading_on whole further (packets ++ packet ∷ []) c.advance.new.self mid new behind c.in_ok-end.ensures.input,
            next_now packets c.packets.last c.later-last.result packet time c.later-last.ensures,
            λ first plan played.
                let given = items_in plan packets false in
                let here = plays_on first plan packets given false (Begun given) c.packets.self old mid (goes first plan played) c.in_ok-fill.ensures.read in
                subst (λ end. After first plan (packets ++ packet ∷ []) false end c.take_packet.new.self new) (no_flood c.in_ok-end.end (λ moment is. c.in_default.not-Flood moment is)) (c.in_ok-end.ensures.after first plan packets here),
          );
    }

pub returns-clause-came : goal.returns-clause-came
returns-clause-came g c first plan whole bytes played is =
    let old = g.S.Shelf.outside c.packets.shelf in
    let mid = g.S.Shelf.outside c.fill.new.shelf in
    let (longer, packets, reading, time, goes) = c.packets.invariant.goes_on whole bytes is in
    let (further, filled) = c.in_ok-fill.ensures.goes_on whole longer packets reading in
    let given = items_in plan packets false in
    record {
      bytes = further;
      records = packets;
      reading = filled;
      through = c.in_ok-fill.ensures.through c.if-branch.false whole further packets filled;
      last_is = time;
      played = plays_on first plan packets given false (Begun given) c.packets.self old mid (goes first plan played) c.in_ok-fill.ensures.read;
    }

pub returns-clause-ready : goal.returns-clause-ready
returns-clause-ready g c =
    can_take_on c.packets.self.player.sink (g.S.Shelf.outside c.packets.shelf) (g.S.Shelf.outside c.fill.new.shelf) c.in_ok-fill.ensures.read.all.does.outputs_stay c.packets.invariant.ready
