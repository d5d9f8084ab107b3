use Rattle.std.proofs.Common.{◌||◌, refl, sym, ap, ◌∙◌}
use Rattle.zk_traffic.specs.Taken.{segment_of}
use Rattle.zk_traffic.proofs.PacketLemmas.{may_follow}
use Rattle.zk_traffic.proofs.TakenLemmas.{taken_all}
use Rattle.zk_traffic.proofs.table.Table.take.Goals as goal

pub returns-then-touched : goal.returns-then-touched
returns-then-touched c = λ limit segments current.
    let s = segment_of c.args.t c.args.segment.now in
    let may = may_follow c.args.self.now limit segments current.told s current.holds current.in_order in
    let touched = c.in_ok-touched.touched in
    taken_all c.args.self.now c.tell-receiver_ended.new.self limit segments current.told s touched c.stops-stops.result c.in_ok-moves.moves c.tell-reached.result c.tell-receiver_ended.result
    (record {
      conn = touched.conn;
      side = touched.side;
      opened = touched.opened;
      established = touched.established;
      sender_ended = touched.ended;
      receiver_ended = c.tell-receiver_ended.result;
      gave_up = c.in_ok-moves.moves.gave_up;
      reset = touched.reset;
    })
    c.packet.new.self c.tell-reached.new.self.conns c.take.new.self c.other.result c.protocol-protocol.result c.args.news.now c.read_datagram.new.news c.take.new.news
    current.holds current.in_order (c.in_ok-touched.ensures.answer current.told current.holds.stands may) (c.in_ok-touched.ensures.taken current.told current.holds.stands may)
    c.stops-stops.ensures.resets c.stops-stops.ensures.was_reset c.protocol-protocol.ensures.syn c.protocol-protocol.ensures.datagram
    c.read_datagram.ensures.runs c.read_datagram.ensures.gaps (c.in_ok-read_datagram.ensures.units c.args.t) c.in_ok-moves.ensures.limit c.in_ok-moves.ensures.others (c.in_ok-moves.ensures.taken c.args.t)
    c.other.ensures
    (record { told = c.tell-reached.ensures.told; ended_is = c.tell-reached.ensures.ended })
    (record { told = c.tell-receiver_ended.ensures.told; ended_is = c.tell-receiver_ended.ensures.ended })
    (c.tell-receiver_ended.ensures.streams ∙ c.tell-reached.ensures.streams)
    refl refl refl refl (c.if-touched.true ∙ sym (ap (λ b. b || c.tell-reached.result) c.if-touched.true)) refl refl refl

pub returns-else-touched : goal.returns-else-touched
returns-else-touched c = λ limit segments current.
    let s = segment_of c.args.t c.args.segment.now in
    let may = may_follow c.args.self.now limit segments current.told s current.holds current.in_order in
    let touched = c.in_ok-touched.touched in
    taken_all c.args.self.now c.tell-receiver_ended.new.self limit segments current.told s touched c.stops-stops.result c.in_ok-moves.moves c.tell-reached.result c.tell-receiver_ended.result
    (record {
      conn = touched.conn;
      side = touched.side;
      opened = touched.opened;
      established = touched.established;
      sender_ended = c.tell-reached.result;
      receiver_ended = c.tell-receiver_ended.result;
      gave_up = c.in_ok-moves.moves.gave_up;
      reset = touched.reset;
    })
    c.packet.new.self c.tell-reached.new.self.conns c.take.new.self c.other.result c.protocol-protocol.result c.args.news.now c.read_datagram.new.news c.take.new.news
    current.holds current.in_order (c.in_ok-touched.ensures.answer current.told current.holds.stands may) (c.in_ok-touched.ensures.taken current.told current.holds.stands may)
    c.stops-stops.ensures.resets c.stops-stops.ensures.was_reset c.protocol-protocol.ensures.syn c.protocol-protocol.ensures.datagram
    c.read_datagram.ensures.runs c.read_datagram.ensures.gaps (c.in_ok-read_datagram.ensures.units c.args.t) c.in_ok-moves.ensures.limit c.in_ok-moves.ensures.others (c.in_ok-moves.ensures.taken c.args.t)
    c.other.ensures
    (record { told = c.tell-reached.ensures.told; ended_is = c.tell-reached.ensures.ended })
    (record { told = c.tell-receiver_ended.ensures.told; ended_is = c.tell-receiver_ended.ensures.ended })
    (c.tell-receiver_ended.ensures.streams ∙ c.tell-reached.ensures.streams)
    refl refl refl refl (sym (ap (λ b. b || c.tell-reached.result) c.if-touched.false)) refl refl refl
