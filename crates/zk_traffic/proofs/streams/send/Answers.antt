use Rattle.std.proofs.Common.{◌≡◌, not, ◌&&◌, ◌++◌, Some, sym, subst, arith}
use Rattle.zk_conn.specs.Segment.{has_rst}
use Rattle.zk_reasm.specs.Histories.{front_of}
use Rattle.zk_reasm.specs.Standing.{StandsFor}
use Rattle.zk_traffic.specs.Conversation.{fin_told, put_with, sent_told, stop_told, told_more}
use Rattle.zk_traffic.specs.Moves.{HasMoved}
use Rattle.zk_traffic.specs.Streams.{IsStream}
use Rattle.zk_traffic.specs.Taken.{segment_of}
use Rattle.zk_reasm.proofs.LawLemmas.{front_never_falls}
use Rattle.zk_traffic.proofs.StreamLemmas.{moves_some, of_some}
use Rattle.zk_traffic.proofs.streams.send.Goals as goal

pub returns-clause-moves : goal.returns-clause-moves
returns-clause-moves c = λ t limit d is.
    let more = sent_told (segment_of t c.args.segment.now) in
    let first = stop_told c.args.stop in
    of_some (λ e. HasMoved limit c.args.conn c.args.side e (told_more more (told_more first e)) c.moved_from.result (Some c.take_payload.new.stream) c.args.news.now c.take_payload.new.news c.args.readers.now c.end_if.new.readers)
    limit c.in-Some.stream d (subst (λ o. IsStream limit o d) c.in-Some.is is)
    (λ e stands.
    let at = front_of e.base limit e.told in
    let front = c.front-front.ensures e.base limit at e.told stands in
    let drained = c.in_ok-gave_up.ensures.drained t e.base limit (e.told ++ first) (subst (StandsFor c.stop_if.new.stream e.base limit (e.told ++ first)) (sym front) (c.stop_if.ensures e.base limit at e.told stands))
    (omega (arith, front, front_never_falls e.base limit e.told first)) in
    moves_some limit c.args.conn c.args.side e first more c.front-front.result c.ended-had_ended.result c.ended.result c.take_payload.new.stream c.moved_from.result c.args.news.now c.take_payload.new.news c.args.readers.now c.take_payload.new.readers c.end_if.new.readers
    front (c.ended-had_ended.ensures e.base limit at e.told stands) drained (c.ended.ensures e.base limit (front_of e.base limit (e.told ++ first ++ more)) (e.told ++ first ++ more) drained.stands) c.end_if.ensures
    (c.moved_from.ensures e.base limit (front_of e.base limit (e.told ++ first ++ more)) (e.told ++ first ++ more) drained.stands))

pub returns-clause-gave_up : goal.returns-clause-gave_up
returns-clause-gave_up c = λ t limit d is.
    let s = segment_of t c.args.segment.now in
    let first = stop_told c.args.stop in
    of_some (λ e. c.in_ok-gave_up.gave_up ≡ (not (has_rst c.args.segment.now.view) && put_with limit s (told_more (fin_told s) (told_more first e))))
    limit c.in-Some.stream d (subst (λ o. IsStream limit o d) c.in-Some.is is)
    (λ e stands. c.in_ok-gave_up.ensures.gave_up t e.base limit (front_of e.base limit e.told) (e.told ++ first) (c.stop_if.ensures e.base limit (front_of e.base limit e.told) e.told stands))
