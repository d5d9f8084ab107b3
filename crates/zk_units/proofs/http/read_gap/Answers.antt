use Rattle.std.proofs.Common.{◌≡◌, ◌+◌, ◌-◌, length, None, Some, MatchOption, sym, ap, subst, ◌∙◌, arith}
use Rattle.std.proofs.lemmas.List.{length-drop}
use Rattle.std.specs.Prelude.{◌↔◌}
use Rattle.zk_http.specs.Cases.{Held, case_of}
use Rattle.zk_http.specs.Places.{of_side}
use Rattle.zk_http.specs.Standing.{HasGap, Takes}
use Rattle.zk_http.specs.Units.{next}
use Rattle.zk_units.specs.HttpTurns.{ReadsOn}
use Rattle.zk_units.specs.Unread.{places_of}
use Rattle.zk_units.proofs.HttpLemmas.{gap_none, gap_turn}
use Rattle.zk_units.proofs.UnreadLemmas.{bytes_within}
use Rattle.zk_units.proofs.http.read_gap.Goals as goal

pub returns-in-Some-clause-reads : goal.returns-in-Some-clause-reads
returns-in-Some-clause-reads c =
    subst (λ o. ReadsOn c.args.side c.args.http.now c.read_places-step.new.http c.args.«unread».now c.pass.new.self o) (c.in-Some.is ∙ sym (ap (λ x. Some x) c.in-Some.unit-is))
    (gap_turn c.args.side c.args.http.now c.read_places-step.new.http c.args.«unread».now c.pass.new.self c.read_places-step.result c.gap-places.result
    (c.len.result - length c.run-unused.result.now - c.gap-places.result) c.requires.fits (omega (arith, c.requires.gap, c.gap-places.ensures.value)) c.gap-places.ensures.places
    (omega (arith, c.len.ensures, ap length c.run-unused.ensures.bytes, c.gap-places.ensures.within))
    (λ streams units stands gap. c.read_places-step.ensures.found streams units stands (subst (λ n. HasGap c.args.http.now c.args.side (of_side c.args.side streams) n c.gap-places.result (c.len.result - length c.run-unused.result.now - c.gap-places.result)) (sym (ap length c.run-unused.ensures.bytes)) gap))
    (λ streams units stands gap. c.read_places-step.ensures.stands streams units stands (subst (λ n. HasGap c.args.http.now c.args.side (of_side c.args.side streams) n c.gap-places.result (c.len.result - length c.run-unused.result.now - c.gap-places.result)) (sym (ap length c.run-unused.ensures.bytes)) gap))
    (subst (λ n. Takes c.args.side c.args.http.now c.read_places-step.new.http c.read_places-step.result.used (n + c.gap-places.result)) (ap length c.run-unused.ensures.bytes) c.read_places-step.ensures.used)
    c.read_places-step.ensures.seen c.pass.ensures.places c.pass.ensures.front c.pass.ensures.ended)

pub returns-in-None-clause-reads : goal.returns-in-None-clause-reads
returns-in-None-clause-reads c =
    subst (λ o. ReadsOn c.args.side c.args.http.now c.read_places-step.new.http c.args.«unread».now c.pass.new.self o) c.in-None.is
    (gap_turn c.args.side c.args.http.now c.read_places-step.new.http c.args.«unread».now c.pass.new.self c.read_places-step.result c.gap-places.result
    (c.len.result - length c.run-unused.result.now - c.gap-places.result) c.requires.fits (omega (arith, c.requires.gap, c.gap-places.ensures.value)) c.gap-places.ensures.places
    (omega (arith, c.len.ensures, ap length c.run-unused.ensures.bytes, c.gap-places.ensures.within))
    (λ streams units stands gap. c.read_places-step.ensures.found streams units stands (subst (λ n. HasGap c.args.http.now c.args.side (of_side c.args.side streams) n c.gap-places.result (c.len.result - length c.run-unused.result.now - c.gap-places.result)) (sym (ap length c.run-unused.ensures.bytes)) gap))
    (λ streams units stands gap. c.read_places-step.ensures.stands streams units stands (subst (λ n. HasGap c.args.http.now c.args.side (of_side c.args.side streams) n c.gap-places.result (c.len.result - length c.run-unused.result.now - c.gap-places.result)) (sym (ap length c.run-unused.ensures.bytes)) gap))
    (subst (λ n. Takes c.args.side c.args.http.now c.read_places-step.new.http c.read_places-step.result.used (n + c.gap-places.result)) (ap length c.run-unused.ensures.bytes) c.read_places-step.ensures.used)
    c.read_places-step.ensures.seen c.pass.ensures.places c.pass.ensures.front c.pass.ensures.ended)

pub returns-in-None-2-clause-reads : goal.returns-in-None-2-clause-reads
returns-in-None-2-clause-reads c =
    subst (λ o. ReadsOn c.args.side c.args.http.now c.read_places-step.new.http c.args.«unread».now c.pass.new.self o) c.in-None-2.is
    (gap_turn c.args.side c.args.http.now c.read_places-step.new.http c.args.«unread».now c.pass.new.self c.read_places-step.result c.gap-places.result
    (c.len.result - length c.run-unused.result.now - c.gap-places.result) c.requires.fits (omega (arith, c.requires.gap, c.gap-places.ensures.value)) c.gap-places.ensures.places
    (omega (arith, c.len.ensures, ap length c.run-unused.ensures.bytes, c.gap-places.ensures.within))
    (λ streams units stands gap. c.read_places-step.ensures.found streams units stands (subst (λ n. HasGap c.args.http.now c.args.side (of_side c.args.side streams) n c.gap-places.result (c.len.result - length c.run-unused.result.now - c.gap-places.result)) (sym (ap length c.run-unused.ensures.bytes)) gap))
    (λ streams units stands gap. c.read_places-step.ensures.stands streams units stands (subst (λ n. HasGap c.args.http.now c.args.side (of_side c.args.side streams) n c.gap-places.result (c.len.result - length c.run-unused.result.now - c.gap-places.result)) (sym (ap length c.run-unused.ensures.bytes)) gap))
    (subst (λ n. Takes c.args.side c.args.http.now c.read_places-step.new.http c.read_places-step.result.used (n + c.gap-places.result)) (ap length c.run-unused.ensures.bytes) c.read_places-step.ensures.used)
    c.read_places-step.ensures.seen c.pass.ensures.places c.pass.ensures.front c.pass.ensures.ended)

pub returns-in-None-clause-none : goal.returns-in-None-clause-none
returns-in-None-clause-none c =
    let after = c.len.result - length c.run-unused.result.now - c.gap-places.result in
    let used = c.read_places-step.result.used in
    gap_none c.args.side c.args.http.now c.args.«unread».now c.pass.new.self used c.gap-places.result after c.if-step-eq0.true c.pass.ensures.places c.gap-places.ensures.places
    (omega (arith, c.len.ensures, ap length c.run-unused.ensures.bytes, c.gap-places.ensures.within))
    (λ streams units stands gap.
    subst (λ o. MatchOption o (((used ≡ 0) ↔ (case_of c.args.side units ≡ Held)) × (used ≡ 0 → next c.args.side streams units ≡ None)) (λ one. next c.args.side streams units ≡ Some one)) c.in-None.is
    (c.read_places-step.ensures.found streams units stands (subst (λ n. HasGap c.args.http.now c.args.side (of_side c.args.side streams) n c.gap-places.result after) (sym (ap length c.run-unused.ensures.bytes)) gap)))
    (bytes_within c.pass.new.self)

pub returns-in-None-2-clause-fewer : goal.returns-in-None-2-clause-fewer
returns-in-None-2-clause-fewer c =
    let places = places_of c.args.«unread».now in
    let used = c.read_places-step.result.used in
    let less : length (places_of c.pass.new.self) ≡ length places - used = ap length c.pass.ensures.places ∙ length-drop used places in
    omega (arith, less, c.if-step-eq0.false, c.gap-places.ensures.within, c.gap-places.ensures.value, c.requires.gap)
