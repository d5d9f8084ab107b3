use Rattle.std.proofs.Common.{max, refl, sym, subst, ◌∙◌, arith}
use Rattle.zk_reasm.specs.Held.{byte_kept, taken_of}
use Rattle.zk_reasm.specs.Parts.{IsFirstFree}
use Rattle.zk_reasm.specs.Told.{Segment}
use Rattle.zk_reasm.proofs.PutLemmas.{put_moved, answer_is, old_where_over}
use Rattle.zk_reasm.proofs.StandingLemmas.{stands_over, stands_moved}
use Rattle.zk_reasm.proofs.stream.Stream.put.Goals as goal

pub returns-then-self-clause-answer : goal.returns-then-self-clause-answer
returns-then-self-clause-answer c = λ base limit taken told stands. old_where_over c.args.self.now base limit told taken c.args.seq c.args.bytes.now stands c.if-self.true

pub returns-then-self-clause-told : goal.returns-then-self-clause-told
returns-then-self-clause-told c = λ base limit taken told stands.
    stands_over c.args.self.now c.args.self.now base limit told (Segment c.args.seq c.args.bytes.now) taken stands c.if-self.true refl refl c.if-self.true refl refl

pub advance-requires-clause-taken : goal.advance-requires-clause-taken
unfolding taken_of
advance-requires-clause-taken c = omega (arith, c.in_ok-count.ensures.taken, c.in_ok-count.ensures.front, c.args.self.now.settled.order)

pub returns-clause-answer : goal.returns-clause-answer
returns-clause-answer c = λ base limit taken told stands.
    c.answer.ensures
    ∙ answer_is c.args.self.now _ c.judge-gave_up.new.self base limit told taken taken c.args.seq c.args.bytes.now c.of-piece.result.at c.at_or_past.result.at c.of-piece.result.bytes.now c.at_or_past.result.bytes.now
    c.last_end.result c.in_ok-count.count (byte_kept c.add.new.self) c.reach.result c.furthest.result c.judge-gave_up.result _ c.judge-gave_up.ensures.rest c.judge-gave_up.ensures.gave_up
    stands c.if-self.false
    (record {
      whole_is = c.of-piece.ensures.bytes;
      places_are = c.of-piece.ensures.places;
      within = c.of-piece.ensures.within;
      rest_is = c.at_or_past.ensures.bytes;
      end_is = c.last_end.ensures;
      added_are = c.in_ok-count.ensures.bytes;
      counted = c.in_ok-count.ensures.count;
    })
    (record {
      base_is = refl;
      limit_is = refl;
      fin_is = refl;
      over_is = refl;
      acked_is = refl;
      payload_is = c.max-self.ensures;
      taken_is = c.advance.ensures.taken ∙ c.in_ok-count.ensures.taken ∙ stands.taken_is;
      more = omega (arith, stands.taken_is);
      low = omega (arith, stands.taken_is);
      bytes_are = λ at low. c.advance.ensures.bytes at (omega (arith, low, c.in_ok-count.ensures.taken, stands.taken_is));
      known_is = c.reach.ensures;
      most_is = c.furthest.ensures;
      front_moves = λ free first. c.advance.ensures.front free (subst (λ n. IsFirstFree (byte_kept c.add.new.self) (max n c.reach.result) free) (sym c.in_ok-count.ensures.front) first);
    })

pub returns-clause-told : goal.returns-clause-told
returns-clause-told c = λ base limit taken told stands.
    stands_moved c.args.self.now _ c.judge-gave_up.new.self base limit told (Segment c.args.seq c.args.bytes.now) taken taken (byte_kept c.add.new.self) c.reach.result c.furthest.result
    c.judge-gave_up.ensures.rest c.judge-gave_up.ensures.over stands c.if-self.false
    (put_moved c.args.self.now _ base limit told taken taken c.args.seq c.args.bytes.now c.of-piece.result.at c.at_or_past.result.at c.of-piece.result.bytes.now c.at_or_past.result.bytes.now
    c.last_end.result c.in_ok-count.count (byte_kept c.add.new.self) c.reach.result c.furthest.result stands c.if-self.false
    (record {
      whole_is = c.of-piece.ensures.bytes;
      places_are = c.of-piece.ensures.places;
      within = c.of-piece.ensures.within;
      rest_is = c.at_or_past.ensures.bytes;
      end_is = c.last_end.ensures;
      added_are = c.in_ok-count.ensures.bytes;
      counted = c.in_ok-count.ensures.count;
    })
    (record {
      base_is = refl;
      limit_is = refl;
      fin_is = refl;
      over_is = refl;
      acked_is = refl;
      payload_is = c.max-self.ensures;
      taken_is = c.advance.ensures.taken ∙ c.in_ok-count.ensures.taken ∙ stands.taken_is;
      more = omega (arith, stands.taken_is);
      low = omega (arith, stands.taken_is);
      bytes_are = λ at low. c.advance.ensures.bytes at (omega (arith, low, c.in_ok-count.ensures.taken, stands.taken_is));
      known_is = c.reach.ensures;
      most_is = c.furthest.ensures;
      front_moves = λ free first. c.advance.ensures.front free (subst (λ n. IsFirstFree (byte_kept c.add.new.self) (max n c.reach.result) free) (sym c.in_ok-count.ensures.front) first);
    }))
