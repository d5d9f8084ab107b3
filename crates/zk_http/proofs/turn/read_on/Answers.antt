use Rattle.std.proofs.Common.{◌≡◌, ◌-◌, ◌++◌, length, take, drop, refl, sym, ap, subst, ◌∙◌, arith, length-drop}
use Rattle.zk_http.specs.Reading.{KnowsIn, means}
use Rattle.zk_http.specs.Turns.{DataGoes, Goes, Shows, ShowsNothing, places_of}
use Rattle.zk_http.proofs.DataLaws.{data_along, given_along, none_given, none_goes}
use Rattle.zk_http.proofs.FollowLaws.{later_none, lent, lent_bytes}
use Rattle.zk_http.proofs.TurnLaws.{goes_along, nothing_along, shows_along}
use Rattle.zk_http.proofs.turn.read_on.Goals as goal

pub parts-init : goal.parts-init
parts-init g c =
    let seen = c.requires.seen in
    record {
      within = omega arith;
      body = omega arith;
      gap = omega arith;
      seen = omega arith;
      most = c.requires.most;
      content = λ knows. none_goes c.args.reading.part (places_of c.args.bytes.now);
      given = λ knows before held. subst (λ all. g.B.Body.stands_for c.args.body.now all) (none_given c.args.reading.part before) held;
      rest = refl;
      goes = λ knows. record { by = λ ended behind. sym (later_none (means c.args.reading ended (places_of c.args.bytes.now ++ behind))); knows = knows };
    }

pub parts-preserved : goal.parts-preserved
parts-preserved g c =
    let counts = c.in-On.ensures.counts in
    let bytes = c.args.bytes.now in
    let left : length (take (length bytes - c.parts.used) (drop c.parts.used bytes)) ≡ length bytes - c.parts.used =
    ap length (lent_bytes c.parts.used bytes) ∙ length-drop c.parts.used bytes in
    record {
      within = omega (arith, counts.0.within);
      body = omega (arith, counts.0.body);
      gap = omega (arith, counts.0.gap);
      seen = omega (arith, counts.0.seen);
      most = counts.0.most;
      content = λ knows.
          let rest = lent c.parts.used bytes in
          data_along c.args.reading.part c.parts.reading.part c.in-On.next.part c.parts.used c.in-On.places (places_of bytes) (c.parts.invariant.content knows)
          (subst (λ places. DataGoes c.parts.reading.part c.in-On.next.part c.in-On.places places) rest
          (c.in-On.ensures.content (subst (λ places. KnowsIn c.parts.reading.part places) (sym rest) (c.parts.invariant.goes knows).knows)));
      given = λ knows before held.
          let rest = lent c.parts.used bytes in
          subst (λ all. g.B.Body.stands_for c.read_part.new.body all)
          (given_along c.args.reading.part c.parts.reading.part c.parts.used c.in-On.places (places_of bytes) _ before (c.parts.invariant.content knows) rest)
          (c.in-On.ensures.given (subst (λ places. KnowsIn c.parts.reading.part places) (sym rest) (c.parts.invariant.goes knows).knows) _
          (c.parts.invariant.given knows before held));
      rest = c.in-On.ensures.rest ∙ c.parts.invariant.rest;
      goes = λ knows.
          let goes = c.parts.invariant.goes knows in
          let rest = lent c.parts.used bytes in
          goes_along c.args.reading c.parts.reading c.in-On.next c.parts.used c.in-On.places (places_of bytes) goes
          (subst (λ places. Goes c.parts.reading c.in-On.next c.in-On.places places) rest
          (c.in-On.ensures.turn (subst (λ places. KnowsIn c.parts.reading.part places) (sym rest) goes.knows)));
    }

pub returns-in-Waits-clause-turn : goal.returns-in-Waits-clause-turn
returns-in-Waits-clause-turn g c knows =
    let bytes = c.args.bytes.now in
    let goes = c.parts.invariant.goes knows in
    let rest = lent c.parts.used bytes in
    let both = c.in-Waits.ensures.turn (subst (λ places. KnowsIn c.parts.reading.part places) (sym rest) goes.knows) in (
      goes_along c.args.reading c.parts.reading c.in-Waits.reading c.parts.used c.in-Waits.places (places_of bytes) goes
          (subst (λ places. Goes c.parts.reading c.in-Waits.reading c.in-Waits.places places) rest both.0),
      nothing_along c.in-Waits.reading c.args.ended c.parts.used c.in-Waits.places (places_of bytes)
          (subst (λ places. ShowsNothing c.in-Waits.reading c.args.ended (drop c.in-Waits.places places)) rest both.1),
    )

pub returns-in-Tells-clause-turn : goal.returns-in-Tells-clause-turn
returns-in-Tells-clause-turn g c knows =
    let bytes = c.args.bytes.now in
    let goes = c.parts.invariant.goes knows in
    let rest = lent c.parts.used bytes in
    let shows = c.in-Tells.ensures.turn (subst (λ places. KnowsIn c.parts.reading.part places) (sym rest) goes.knows) in
    shows_along c.args.reading c.parts.reading c.args.ended c.parts.used c.in-Tells.places c.in-Tells.what (places_of bytes) goes
    (subst (λ places. Shows c.parts.reading c.args.ended c.in-Tells.places c.in-Tells.what places) rest shows)

pub returns-in-Waits-clause-content : goal.returns-in-Waits-clause-content
returns-in-Waits-clause-content g c knows =
    let bytes = c.args.bytes.now in
    let rest = lent c.parts.used bytes in
    data_along c.args.reading.part c.parts.reading.part c.in-Waits.reading.part c.parts.used c.in-Waits.places (places_of bytes) (c.parts.invariant.content knows)
    (subst (λ places. DataGoes c.parts.reading.part c.in-Waits.reading.part c.in-Waits.places places) rest
    (c.in-Waits.ensures.content (subst (λ places. KnowsIn c.parts.reading.part places) (sym rest) (c.parts.invariant.goes knows).knows)))

pub returns-in-Waits-clause-given : goal.returns-in-Waits-clause-given
returns-in-Waits-clause-given g c knows before held =
    let bytes = c.args.bytes.now in
    let rest = lent c.parts.used bytes in
    subst (λ all. g.B.Body.stands_for c.read_part.new.body all)
    (given_along c.args.reading.part c.parts.reading.part c.parts.used c.in-Waits.places (places_of bytes) _ before (c.parts.invariant.content knows) rest)
    (c.in-Waits.ensures.given (subst (λ places. KnowsIn c.parts.reading.part places) (sym rest) (c.parts.invariant.goes knows).knows) _
    (c.parts.invariant.given knows before held))

pub returns-in-Tells-clause-given : goal.returns-in-Tells-clause-given
returns-in-Tells-clause-given g c knows before held =
    let bytes = c.args.bytes.now in
    let rest = lent c.parts.used bytes in
    subst (λ all. g.B.Body.stands_for c.read_part.new.body all)
    (given_along c.args.reading.part c.parts.reading.part c.parts.used c.in-Tells.places (places_of bytes) _ before (c.parts.invariant.content knows) rest)
    (c.in-Tells.ensures.given (subst (λ places. KnowsIn c.parts.reading.part places) (sym rest) (c.parts.invariant.goes knows).knows) _
    (c.parts.invariant.given knows before held))
