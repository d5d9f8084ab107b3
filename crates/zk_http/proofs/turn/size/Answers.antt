use Rattle.std.proofs.Common.{◌≡◌, Some, sym, ap, subst, ◌∙◌, arith}
use Rattle.zk_http.specs.declared.units.Reason.TheVariants.{ChunkBad}
use Rattle.zk_http.specs.declared.units.UnitKind.TheVariants.{Violation}
use Rattle.zk_http.specs.Turns.{Shows, places_of}
use Rattle.zk_http.specs.declared.state.Reading.{Reading}
use Rattle.zk_http.proofs.DataLaws.{bad_line_has_none, last_line_goes_on, line_goes_on_with, long_line_has_none}
use Rattle.zk_http.proofs.ChunkedLaws.{last_line_goes, line_goes_on, bad_line_shows, long_line_shows, line_stays}
use Rattle.zk_http.proofs.turn.size.Goals as goal

pub returns-in-Some-eq0-clause-turn : goal.returns-in-Some-eq0-clause-turn
returns-in-Some-eq0-clause-turn c told knows =
    let none : c.in-Some-eq0.field-0 ≡ 0 = omega arith in
    last_line_goes c.args.reading c.at.result c.args.search c.in-Ends.search c.new.result c.args.bytes.now c.in-Ends.len c.requires.is
    (c.in-Ends.ensures.found knows) (sym c.size_of.ensures ∙ c.in-Some-eq0.is ∙ ap (λ n. Some n) none) c.at.ensures (c.new.ensures.knows _)

pub returns-in-Some-clause-turn : goal.returns-in-Some-clause-turn
returns-in-Some-clause-turn c told knows =
    line_goes_on c.args.reading c.at-in-Some.result c.args.search c.in-Ends.search c.args.bytes.now c.in-Ends.len c.in-Some.size c.requires.is
    (c.in-Ends.ensures.found knows) (omega arith) (sym c.size_of.ensures ∙ c.in-Some.is) c.at-in-Some.ensures

pub returns-in-None-clause-turn : goal.returns-in-None-clause-turn
returns-in-None-clause-turn c told knows =
    bad_line_shows c.args.reading told c.args.search c.in-Ends.search c.args.bytes.now c.in-Ends.len c.requires.is
    (c.in-Ends.ensures.found knows) (sym c.size_of.ensures ∙ c.in-None.is)

pub returns-in-TooLong-clause-turn : goal.returns-in-TooLong-clause-turn
returns-in-TooLong-clause-turn c told knows =
    let within = c.in-TooLong.ensures.within in
    subst (λ n. Shows c.args.reading told n (Violation ChunkBad) (places_of c.args.bytes.now)) (sym within.0)
    (long_line_shows c.args.reading told c.args.search c.args.bytes.now c.requires.is (c.in-TooLong.ensures.found knows) (omega arith))

pub returns-in-Waits-clause-turn : goal.returns-in-Waits-clause-turn
returns-in-Waits-clause-turn c told knows =
    let within = c.in-Waits.ensures.within in
    line_stays c.args.reading c.at-in-Waits.result told c.args.search c.in-Waits.search c.args.bytes.now c.requires.is (c.in-Waits.ensures.found knows)
    (omega arith) c.at-in-Waits.ensures

pub returns-in-Some-eq0-clause-content : goal.returns-in-Some-eq0-clause-content
returns-in-Some-eq0-clause-content c knows =
    let none : c.in-Some-eq0.field-0 ≡ 0 = omega arith in
    last_line_goes_on c.args.reading.part c.at.result.part c.args.search c.in-Ends.search c.new.result c.args.bytes.now c.in-Ends.len c.requires.is
    (c.in-Ends.ensures.found knows) (sym c.size_of.ensures ∙ c.in-Some-eq0.is ∙ ap (λ n. Some n) none)
    (ap (λ (reading : Reading). reading.part) c.at.ensures)

pub returns-in-Some-clause-content : goal.returns-in-Some-clause-content
returns-in-Some-clause-content c knows =
    line_goes_on_with c.args.reading.part c.at-in-Some.result.part c.args.search c.in-Ends.search c.args.bytes.now c.in-Ends.len c.in-Some.size c.requires.is
    (c.in-Ends.ensures.found knows) (omega arith) (sym c.size_of.ensures ∙ c.in-Some.is)
    (ap (λ (reading : Reading). reading.part) c.at-in-Some.ensures)

pub returns-in-None-clause-content : goal.returns-in-None-clause-content
returns-in-None-clause-content c knows =
    bad_line_has_none c.args.reading.part c.args.search c.in-Ends.search c.args.bytes.now c.in-Ends.len c.requires.is
    (c.in-Ends.ensures.found knows) (sym c.size_of.ensures ∙ c.in-None.is)

pub returns-in-TooLong-clause-content : goal.returns-in-TooLong-clause-content
returns-in-TooLong-clause-content c knows =
    let within = c.in-TooLong.ensures.within in
    long_line_has_none c.args.reading.part c.args.search c.args.bytes.now c.in-TooLong.limit c.requires.is within.0
    (c.in-TooLong.ensures.found knows) (omega arith)
