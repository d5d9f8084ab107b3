use Rattle.std.proofs.Common.{sym, subst, arith}
use Rattle.zk_http.specs.declared.units.Reason.TheVariants.{ChunkBad}
use Rattle.zk_http.specs.declared.units.UnitKind.TheVariants.{Violation}
use Rattle.zk_http.specs.Turns.{Shows, places_of}
use Rattle.zk_http.proofs.ChunkedLaws.{trailer_shows, long_trailer_shows, trailer_stays}
use Rattle.zk_http.proofs.TurnLaws.{shows_as}
use Rattle.zk_http.proofs.turn.trailer.Goals as goal

pub returns-in-Ends-clause-turn : goal.returns-in-Ends-clause-turn
returns-in-Ends-clause-turn c told knows =
    shows_as c.args.reading told c.in-Ends.len _ c.done.result (places_of c.args.bytes.now) c.done.ensures
    (trailer_shows c.args.reading told c.args.search c.in-Ends.search c.args.bytes.now c.in-Ends.len c.requires.is (c.in-Ends.ensures.found knows))

pub returns-in-TooLong-clause-turn : goal.returns-in-TooLong-clause-turn
returns-in-TooLong-clause-turn c told knows =
    let within = c.in-TooLong.ensures.within in
    subst (λ n. Shows c.args.reading told n (Violation ChunkBad) (places_of c.args.bytes.now)) (sym within.0)
    (long_trailer_shows c.args.reading told c.args.search c.args.bytes.now c.requires.is (c.in-TooLong.ensures.found knows) (omega arith))

pub returns-in-Waits-clause-turn : goal.returns-in-Waits-clause-turn
returns-in-Waits-clause-turn c told knows =
    let within = c.in-Waits.ensures.within in
    trailer_stays c.args.reading c.at.result told c.args.search c.in-Waits.search c.args.bytes.now c.requires.is (c.in-Waits.ensures.found knows)
    (omega arith) c.at.ensures
