use Rattle.std.proofs.Common.{◌+◌, false, ◌++◌, drop, sym, ap, subst, ◌∙◌, arith}
use Rattle.std.proofs.lemmas.List.{append-nil}
use Rattle.zk_base.specs.Places.{bytes_before_gap}
use Rattle.zk_http.specs.HalfTurns.{MovesOver, bytes_in_first}
use Rattle.zk_http.proofs.HalfLaws.{body_knows_gap, body_passes, body_shows, gap_places, gap_split, length-gap_places, more_bytes}
use Rattle.zk_http.proofs.half.Half.body_in_gap.Goals as goal

pub returns-in-Tells-clause-moves : goal.returns-in-Tells-clause-moves
returns-in-Tells-clause-moves c side stream case units after stands has =
    let half = c.args.self in
    let bytes = bytes_before_gap (drop half.used stream.places) in
    let knows = body_knows_gap side half c.args.reading stream case units c.args.places c.requires.some c.requires.state stands in
    let counts = c.in-Tells.ensures.counts in
    subst (MovesOver side c.told.result.0 stream case units c.told.result.1.used) (sym c.told.ensures.step.1)
    (body_shows side half c.told.result.0 c.args.reading stream case units false (gap_places half stream c.args.places)
    (drop c.args.places (drop (half.used + c.args.unused) stream.places)) c.in-Tells.places 0 c.in-Tells.what c.requires.state stands
    (record { rest = gap_split half stream c.args.unused c.args.places after has; last = λ told. absurd cc })
    (c.in-Tells.ensures.turn false bytes has.bytes_are knows)
    (omega (arith, counts.0, length-gap_places half stream c.args.unused c.args.places after has)) counts.1
    (record { used = c.told.ensures.half.0; ended = c.told.ensures.half.1; state = c.told.ensures.half.2 }))

pub returns-in-On-clause-moves : goal.returns-in-On-clause-moves
returns-in-On-clause-moves c side stream case units after stands has =
    let half = c.args.self in
    let bytes = bytes_before_gap (drop half.used stream.places) in
    let knows = body_knows_gap side half c.args.reading stream case units c.args.places c.requires.some c.requires.state stands in
    let counts = c.in-On.ensures.counts in
    subst (MovesOver side c.on.result.0 stream case units c.on.result.1.used) (sym c.on.ensures.step.1)
    (body_passes side half c.on.result.0 c.args.reading c.in-On.reading stream case units c.args.unused c.in-On.places c.args.places after c.on.result.1.used
    c.requires.state stands has c.requires.some (c.in-On.ensures.turn false bytes has.bytes_are knows) (c.in-On.ensures.content bytes has.bytes_are knows) counts.0 counts.1
    c.on.ensures.half.0 c.on.ensures.half.1 c.on.ensures.half.2 c.on.ensures.step.0)

pub returns-in-Waits-clause-moves : goal.returns-in-Waits-clause-moves
returns-in-Waits-clause-moves c side stream case units after stands has =
    let half = c.args.self in
    let bytes = bytes_before_gap (drop half.used stream.places) in
    let knows = body_knows_gap side half c.args.reading stream case units c.args.places c.requires.some c.requires.state stands in
    let counts = c.in-Waits.ensures.counts in
    let turn = c.in-Waits.ensures.turn false bytes has.bytes_are knows in
    subst (MovesOver side c.on-in-Waits.result.0 stream case units c.on-in-Waits.result.1.used) (sym c.on-in-Waits.ensures.step.1)
    (body_passes side half c.on-in-Waits.result.0 c.args.reading c.in-Waits.reading stream case units c.args.unused c.in-Waits.places c.args.places after
    c.on-in-Waits.result.1.used c.requires.state stands has c.requires.some turn.0
    (c.in-Waits.ensures.content bytes has.bytes_are knows) counts.0 counts.1
    c.on-in-Waits.ensures.half.0 c.on-in-Waits.ensures.half.1 c.on-in-Waits.ensures.half.2 c.on-in-Waits.ensures.step.0)

pub returns-in-Tells-clause-none : goal.returns-in-Tells-clause-none
returns-in-Tells-clause-none c side stream case units after stands has =
    let half = c.args.self in
    let bytes = bytes_before_gap (drop half.used stream.places) in
    let knows = body_knows_gap side half c.args.reading stream case units c.args.places c.requires.some c.requires.state stands in
    let counts = c.in-Tells.ensures.counts in
    more_bytes side half c.args.reading stream case units (gap_places half stream c.args.places)
    (drop c.args.places (drop (half.used + c.args.unused) stream.places)) c.in-Tells.places c.told.result.0.used c.requires.state stands
    (gap_split half stream c.args.unused c.args.places after has)
    (omega (arith, counts.0, length-gap_places half stream c.args.unused c.args.places after has)) c.told.ensures.half.0
    ∙ ap (λ more. bytes_in_first half.used stream case units ++ more) (c.in-Tells.ensures.none bytes has.bytes_are knows)
    ∙ append-nil (bytes_in_first half.used stream case units)

pub returns-in-On-clause-none : goal.returns-in-On-clause-none
returns-in-On-clause-none c side stream case units after stands has =
    let half = c.args.self in
    let bytes = bytes_before_gap (drop half.used stream.places) in
    let knows = body_knows_gap side half c.args.reading stream case units c.args.places c.requires.some c.requires.state stands in
    let counts = c.in-On.ensures.counts in
    more_bytes side half c.args.reading stream case units (gap_places half stream c.args.places)
    (drop c.args.places (drop (half.used + c.args.unused) stream.places)) c.in-On.places c.on.result.0.used c.requires.state stands
    (gap_split half stream c.args.unused c.args.places after has)
    (omega (arith, counts.0, counts.1, length-gap_places half stream c.args.unused c.args.places after has)) c.on.ensures.half.0
    ∙ ap (λ more. bytes_in_first half.used stream case units ++ more) (c.in-On.ensures.none bytes has.bytes_are knows)
    ∙ append-nil (bytes_in_first half.used stream case units)

pub returns-in-Waits-clause-none : goal.returns-in-Waits-clause-none
returns-in-Waits-clause-none c side stream case units after stands has =
    let half = c.args.self in
    let bytes = bytes_before_gap (drop half.used stream.places) in
    let knows = body_knows_gap side half c.args.reading stream case units c.args.places c.requires.some c.requires.state stands in
    let counts = c.in-Waits.ensures.counts in
    more_bytes side half c.args.reading stream case units (gap_places half stream c.args.places)
    (drop c.args.places (drop (half.used + c.args.unused) stream.places)) c.in-Waits.places c.on-in-Waits.result.0.used c.requires.state stands
    (gap_split half stream c.args.unused c.args.places after has)
    (omega (arith, counts.0, counts.1, length-gap_places half stream c.args.unused c.args.places after has)) c.on-in-Waits.ensures.half.0
    ∙ ap (λ more. bytes_in_first half.used stream case units ++ more) (c.in-Waits.ensures.none bytes has.bytes_are knows)
    ∙ append-nil (bytes_in_first half.used stream case units)
