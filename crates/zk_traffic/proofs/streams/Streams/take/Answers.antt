use Rattle.std.proofs.Common.{◌∙◌, sym}
use Rattle.zk_base.specs.declared.network.Side.TheVariants.{Orig, Resp}
use Rattle.zk_traffic.specs.Taken.{segment_of}
use Rattle.zk_traffic.proofs.TakeLemmas.{taken_by}
use Rattle.zk_traffic.proofs.streams.Streams.take.Goals as goal

pub returns-in_ok-receiver-in-Orig : goal.returns-in_ok-receiver-in-Orig
returns-in_ok-receiver-in-Orig c = λ t talk stands side_is stops_is was_is.
    let s = segment_of t c.args.segment.now in
    let begins = c.begin-stop.ensures t talk.orig stands.orig_is in
    taken_by c.args.limit c.args.conn talk s Orig c.args.stops.resets c.args.stops.was_reset c.begin-stop.result c.begin-stop.new.stream
    c.send.new.stream c.acknowledge.new.stream
    (record { sender = c.in_ok-sender-in-Orig.sender; receiver = c.in_ok-receiver-in-Orig.receiver; gave_up = c.in_ok-sender-in-Orig.gave_up })
    (record { orig = c.send.new.stream; resp = c.acknowledge.new.stream; readers = c.acknowledge.new.readers })
    c.args.news.now c.send.new.news c.acknowledge.new.news c.args.self.now.readers c.send.new.readers
    (sym c.in-Orig.is ∙ side_is) stops_is was_is begins (c.in_ok-sender-in-Orig.ensures.moves t c.args.limit begins.now begins.stands)
    (c.in_ok-receiver-in-Orig.ensures t c.args.limit talk.resp stands.resp_is)
    (c.in_ok-sender-in-Orig.ensures.gave_up t c.args.limit begins.now begins.stands)
    (λ a b. record { orig_is = a; resp_is = b })

pub returns-in_ok-receiver-in-Resp : goal.returns-in_ok-receiver-in-Resp
returns-in_ok-receiver-in-Resp c = λ t talk stands side_is stops_is was_is.
    let s = segment_of t c.args.segment.now in
    let begins = c.begin-stop-in-Resp.ensures t talk.resp stands.resp_is in
    taken_by c.args.limit c.args.conn talk s Resp c.args.stops.resets c.args.stops.was_reset c.begin-stop-in-Resp.result c.begin-stop-in-Resp.new.stream
    c.send-in-Resp.new.stream c.acknowledge-in-Resp.new.stream
    (record { sender = c.in_ok-sender-in-Resp.sender; receiver = c.in_ok-receiver-in-Resp.receiver; gave_up = c.in_ok-sender-in-Resp.gave_up })
    (record { resp = c.send-in-Resp.new.stream; orig = c.acknowledge-in-Resp.new.stream; readers = c.acknowledge-in-Resp.new.readers })
    c.args.news.now c.send-in-Resp.new.news c.acknowledge-in-Resp.new.news c.args.self.now.readers c.send-in-Resp.new.readers
    (sym c.in-Resp.is ∙ side_is) stops_is was_is begins (c.in_ok-sender-in-Resp.ensures.moves t c.args.limit begins.now begins.stands)
    (c.in_ok-receiver-in-Resp.ensures t c.args.limit talk.orig stands.orig_is)
    (c.in_ok-sender-in-Resp.ensures.gave_up t c.args.limit begins.now begins.stands)
    (λ a b. record { orig_is = b; resp_is = a })
