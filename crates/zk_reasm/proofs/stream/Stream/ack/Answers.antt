use Rattle.std.proofs.Common.{refl, arith}
use Rattle.zk_reasm.specs.Held.{byte_kept, taken_of}
use Rattle.zk_reasm.specs.Told.{Ack}
use Rattle.zk_reasm.proofs.AckLemmas.{ack_moved, ack_answer, ack_over}
use Rattle.zk_reasm.proofs.StandingLemmas.{stands_over, stands_moved}
use Rattle.zk_reasm.proofs.stream.Stream.ack.Goals as goal

pub returns-then-self-clause-answer : goal.returns-then-self-clause-answer
returns-then-self-clause-answer c = λ base limit taken told stands. ack_over c.args.self.now base limit told taken c.args.ack stands c.if-self.true

pub returns-then-self-clause-told : goal.returns-then-self-clause-told
returns-then-self-clause-told c = λ base limit taken told stands.
    stands_over c.args.self.now c.args.self.now base limit told (Ack c.args.ack) taken stands c.if-self.true refl refl c.if-self.true refl refl

pub advance-requires-clause-taken : goal.advance-requires-clause-taken
unfolding taken_of
advance-requires-clause-taken c = omega (arith, c.args.self.now.settled.order)

pub returns-clause-answer : goal.returns-clause-answer
returns-clause-answer c = λ base limit taken told stands.
    ack_answer c.args.self.now _ c.judge.new.self base limit told taken c.args.ack c.acknowledged.result c.reach.result c.furthest.result _ c.judge.ensures.rest stands c.if-self.false
    (record {
      named_is = c.acknowledged.ensures.value;
      base_is = refl;
      limit_is = refl;
      fin_is = refl;
      over_is = refl;
      acked_is = c.max-self.ensures;
      payload_is = refl;
      bytes_are = c.advance.ensures.bytes;
      taken_is = c.advance.ensures.taken;
      known_is = c.reach.ensures;
      most_is = c.furthest.ensures;
      front_moves = c.advance.ensures.front;
    })

pub returns-clause-told : goal.returns-clause-told
returns-clause-told c = λ base limit taken told stands.
    stands_moved c.args.self.now _ c.judge.new.self base limit told (Ack c.args.ack) taken taken (byte_kept c.args.self.now.held) c.reach.result c.furthest.result
    c.judge.ensures.rest c.judge.ensures.over stands c.if-self.false
    (ack_moved c.args.self.now _ base limit told taken c.args.ack c.acknowledged.result c.reach.result c.furthest.result stands c.if-self.false
    (record {
      named_is = c.acknowledged.ensures.value;
      base_is = refl;
      limit_is = refl;
      fin_is = refl;
      over_is = refl;
      acked_is = c.max-self.ensures;
      payload_is = refl;
      bytes_are = c.advance.ensures.bytes;
      taken_is = c.advance.ensures.taken;
      known_is = c.reach.ensures;
      most_is = c.furthest.ensures;
      front_moves = c.advance.ensures.front;
    }))
