use Rattle.std.proofs.Common.{◌++◌, Some, sym, subst}
use Rattle.zk_reasm.specs.Histories.{front_of}
use Rattle.zk_reasm.specs.Standing.{StandsFor}
use Rattle.zk_traffic.specs.Conversation.{acknowledged_told, stop_told, told_more}
use Rattle.zk_traffic.specs.Moves.{HasMoved}
use Rattle.zk_traffic.specs.Streams.{IsStream}
use Rattle.zk_traffic.specs.Taken.{segment_of}
use Rattle.zk_traffic.proofs.StreamLemmas.{front-within, moves_some, of_some}
use Rattle.zk_traffic.proofs.streams.acknowledge.Goals as goal

pub returns : goal.returns
returns c = λ t limit d is.
    let more = acknowledged_told (segment_of t c.args.segment.now) in
    let first = stop_told c.args.stops.resets in
    of_some (λ e. HasMoved limit c.args.conn c.args.side e (told_more more (told_more first e)) c.moved_from.result (Some c.catch_up.new.stream) c.args.news.now c.catch_up.new.news c.args.readers.now c.end_if.new.readers)
    limit c.in-Some.stream d (subst (λ o. IsStream limit o d) c.in-Some.is is)
    (λ e stands.
    let at = front_of e.base limit e.told in
    let front = c.front-front.ensures e.base limit at e.told stands in
    let told = c.acknowledge_by.ensures t e.base limit at (e.told ++ first) (c.stop_if.ensures e.base limit at e.told stands) in
    let drained = c.in_ok-catch_up.ensures e.base limit (e.told ++ first ++ more) (subst (StandsFor c.acknowledge_by.new.stream e.base limit (e.told ++ first ++ more)) (sym front) told)
    (front-within e.base limit c.front-front.result e.told first more front) in
    moves_some limit c.args.conn c.args.side e first more c.front-front.result c.ended-had_ended.result c.ended.result c.catch_up.new.stream c.moved_from.result c.args.news.now c.catch_up.new.news c.args.readers.now c.catch_up.new.readers c.end_if.new.readers
    front (c.ended-had_ended.ensures e.base limit at e.told stands) drained (c.ended.ensures e.base limit (front_of e.base limit (e.told ++ first ++ more)) (e.told ++ first ++ more) drained.stands) c.end_if.ensures
    (c.moved_from.ensures e.base limit (front_of e.base limit (e.told ++ first ++ more)) (e.told ++ first ++ more) drained.stands))
