use Rattle.std.proofs.Common.{◌++◌, length, take, drop, sym, ap, subst, ◌∙◌, arith, append_assoc}
use Rattle.std.proofs.lemmas.List.{append-nil}
use Rattle.zk_http.specs.BodyBytes.{bytes_at}
use Rattle.zk_http.specs.HalfTurns.{IsAllOf, Moves, bytes_in_first}
use Rattle.zk_http.specs.Reading.{data_from}
use Rattle.zk_http.specs.Turns.{places_of}
use Rattle.zk_http.proofs.FollowLaws.{length-places}
use Rattle.zk_http.proofs.HalfLaws.{body_goes, body_knows, body_shows, body_waits, lent_split, more_bytes, nothing_behind}
use Rattle.zk_http.proofs.half.Half.body.Goals as goal

pub returns-in-Tells-clause-moves : goal.returns-in-Tells-clause-moves
returns-in-Tells-clause-moves g c side stream case units stands lent =
    let bytes = c.args.bytes.now in
    let tail = drop (length bytes) (drop c.args.self.used stream.places) in
    let counts = c.in-Tells.ensures.counts in
    let knows = body_knows side c.args.self c.args.reading stream case units bytes c.requires.state stands lent in
    subst (Moves side c.args.self c.told.result.0 stream case units bytes) (sym c.told.ensures.step.1)
    (body_shows side c.args.self c.told.result.0 c.args.reading stream case units c.args.self.ended (places_of bytes) tail c.in-Tells.places 0 c.in-Tells.what c.requires.state stands
    (record {
      rest = lent_split c.args.self stream bytes lent.bytes_are;
      last = λ over. (nothing_behind (length bytes) c.args.self.used stream.places (lent.last over), stands.told over);
    })
    (c.in-Tells.ensures.turn knows) (omega (arith, counts.0, length-places bytes)) counts.1
    (record { used = c.told.ensures.half.0; ended = c.told.ensures.half.1; state = c.told.ensures.half.2 }))

pub returns-in-Waits-clause-moves : goal.returns-in-Waits-clause-moves
returns-in-Waits-clause-moves g c side stream case units stands lent =
    let bytes = c.args.bytes.now in
    let tail = drop (length bytes) (drop c.args.self.used stream.places) in
    let counts = c.in-Waits.ensures.counts in
    let knows = body_knows side c.args.self c.args.reading stream case units bytes c.requires.state stands lent in
    let turn = c.in-Waits.ensures.turn knows in
    let rest = lent_split c.args.self stream bytes lent.bytes_are in
    subst (Moves side c.args.self c.on-in-Waits.result.0 stream case units bytes) (sym c.on-in-Waits.ensures.step.1) (
      body_goes side c.args.self c.on-in-Waits.result.0 c.args.reading c.in-Waits.reading stream case units (places_of bytes) tail c.in-Waits.places c.requires.state stands rest
          turn.0 (c.in-Waits.ensures.content knows) (omega (arith, counts.0.within, length-places bytes)) c.on-in-Waits.ensures.half.0 c.on-in-Waits.ensures.half.1 c.on-in-Waits.ensures.half.2,
      λ (all : IsAllOf c.args.self stream bytes).
          let none = nothing_behind (length bytes) c.args.self.used stream.places all.front in
          body_waits side c.args.self c.args.reading c.in-Waits.reading stream case units (places_of bytes) c.in-Waits.places c.requires.state stands
          (rest ∙ ap (λ tail. places_of bytes ++ tail) none ∙ append-nil (places_of bytes)) all.told turn.0 turn.1,
    )

pub returns-in-Tells-clause-given : goal.returns-in-Tells-clause-given
returns-in-Tells-clause-given g c side stream case units stands lent before held =
    let bytes = c.args.bytes.now in
    let tail = drop (length bytes) (drop c.args.self.used stream.places) in
    let counts = c.in-Tells.ensures.counts in
    let knows = body_knows side c.args.self c.args.reading stream case units bytes c.requires.state stands lent in
    let more =
    more_bytes side c.args.self c.args.reading stream case units (places_of bytes) tail c.in-Tells.places c.told.result.0.used c.requires.state stands
    (lent_split c.args.self stream bytes lent.bytes_are) (omega (arith, counts.0, length-places bytes)) c.told.ensures.half.0 in
    subst (λ all. g.B.Body.stands_for c.read_on.new.body all)
    (append_assoc before (bytes_in_first c.args.self.used stream case units) (bytes_at (data_from c.args.reading.part (take c.in-Tells.places (places_of bytes))))
    ∙ ap (λ all. before ++ all) (sym more))
    (c.in-Tells.ensures.given knows (before ++ bytes_in_first c.args.self.used stream case units) held)

pub returns-in-Waits-clause-given : goal.returns-in-Waits-clause-given
returns-in-Waits-clause-given g c side stream case units stands lent before held =
    let bytes = c.args.bytes.now in
    let tail = drop (length bytes) (drop c.args.self.used stream.places) in
    let counts = c.in-Waits.ensures.counts in
    let knows = body_knows side c.args.self c.args.reading stream case units bytes c.requires.state stands lent in
    let more =
    more_bytes side c.args.self c.args.reading stream case units (places_of bytes) tail c.in-Waits.places c.on-in-Waits.result.0.used c.requires.state stands
    (lent_split c.args.self stream bytes lent.bytes_are) (omega (arith, counts.0.within, length-places bytes)) c.on-in-Waits.ensures.half.0 in
    subst (λ all. g.B.Body.stands_for c.read_on.new.body all)
    (append_assoc before (bytes_in_first c.args.self.used stream case units) (bytes_at (data_from c.args.reading.part (take c.in-Waits.places (places_of bytes))))
    ∙ ap (λ all. before ++ all) (sym more))
    (c.in-Waits.ensures.given knows (before ++ bytes_in_first c.args.self.used stream case units) held)
