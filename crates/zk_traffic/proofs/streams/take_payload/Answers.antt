use Rattle.std.proofs.Common.{◌≡◌, ◌++◌, sym, subst, arith}
use Rattle.std.specs.declared.vec.Vec.{Vec}
use Rattle.zk_reasm.specs.declared.stream.Stream.{Stream}
use Rattle.zk_reasm.specs.Standing.{StandsFor}
use Rattle.zk_reasm.proofs.LawLemmas.{front_never_falls}
use Rattle.zk_traffic.specs.declared.news.Gap.{Gap as Code}
use Rattle.zk_traffic.specs.Conversation.{sent_told}
use Rattle.zk_traffic.specs.Taken.{segment_of}
use Rattle.zk_traffic.proofs.StreamLemmas.{passed_on}
use Rattle.zk_traffic.proofs.streams.take_payload.Goals as goal

same_items : {Z : Type 0} (old new : Vec Code Z) → new ≡ old → new.items ≡ old.items
same_items old new same = cc

pub returns-in-Some-clause-drained : goal.returns-in-Some-clause-drained
returns-in-Some-clause-drained c = λ t base limit told stands within.
    let more = sent_told (segment_of t c.args.segment.now) in
    passed_on c.args.conn c.args.side base limit (told ++ more) c.args.front c.in-Some.run'.now c.pass_on.new.stream c.args.news.now c.add_run.new.self c.args.readers.now c.add_bytes.new.self
    (c.in-Some.ensures.bytes t base limit c.args.front told stands) (c.in-Some.ensures.told t base limit c.args.front told stands)
    (omega (arith, within, front_never_falls base limit told more))
    c.in_ok-add_run.ensures.runs (same_items c.args.news.now.gaps c.add_run.new.self.gaps c.in_ok-add_run.ensures.gaps) c.in_ok-add_run.ensures.units
    c.in_ok-add_bytes.ensures

pub returns-in-Some-clause-gave_up : goal.returns-in-Some-clause-gave_up
returns-in-Some-clause-gave_up c = λ t base limit taken told stands. sym (c.in-Some.ensures.goes_on t base limit taken told stands)

pub returns-clause-drained : goal.returns-clause-drained
returns-clause-drained c = λ t base limit told stands within.
    let more = sent_told (segment_of t c.args.segment.now) in
    c.in_ok-catch_up.ensures base limit (told ++ more)
    (c.in_ok-gave_up.ensures.told t base limit c.args.front told (subst (λ (s : Stream). StandsFor s base limit told c.args.front) (sym c.in_default.ensures.same) stands))
    (omega (arith, within, front_never_falls base limit told more))

pub returns-clause-gave_up : goal.returns-clause-gave_up
returns-clause-gave_up c = λ t base limit taken told stands.
    c.in_ok-gave_up.ensures.gave_up t base limit taken told (subst (λ (s : Stream). StandsFor s base limit told taken) (sym c.in_default.ensures.same) stands)
