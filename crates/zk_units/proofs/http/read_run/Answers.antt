use Rattle.std.proofs.Common.{◌≡◌, ◌-◌, ◌≤◌, length, None, Some, IfNone, MatchOption, sym, ap, subst, ◌∙◌, arith}
use Rattle.std.proofs.lemmas.List.{length-drop}
use Rattle.zk_base.specs.Places.{bytes_before_gap}
use Rattle.zk_http.specs.Places.{of_side}
use Rattle.zk_http.specs.Standing.{HasRead, IsAll}
use Rattle.zk_http.specs.Units.{next}
use Rattle.zk_units.specs.HttpTurns.{ReadsOn, unit_of}
use Rattle.zk_units.specs.Unread.{places_of, run_of}
use Rattle.zk_units.proofs.CutLemmas.{run-drop, run-within}
use Rattle.zk_units.proofs.HttpLemmas.{bytes_none, bytes_turn, fewer_still, fits_told, told_turn, turns, waits_none}
use Rattle.zk_units.proofs.UnreadLemmas.{bytes_within}
use Rattle.zk_units.proofs.http.read_run.Goals as goal

pub read_bytes-requires-clause-places : goal.read_bytes-requires-clause-places
read_bytes-requires-clause-places c =
    let u = c.args.«unread».now in
    omega (arith, c.requires.front, c.tell_end.ensures.used, u.within, ap length c.run.ensures.bytes, run-within (places_of u))

pub read_gap-requires-clause-fits : goal.read_gap-requires-clause-fits
read_gap-requires-clause-fits c =
    (bytes_turn c.args.side c.tell_end.new.http c.read_bytes.new.http c.args.«unread».now c.pass.new.self c.run.result.now c.in_ok-step.step c.run.ensures.bytes
    (fits_told c.args.side c.args.http.now c.tell_end.new.http c.args.«unread».now c.requires c.tell_end.ensures)
    c.in_ok-step.ensures.found c.in_ok-step.ensures.stands c.in_ok-step.ensures.used c.pass.ensures.places c.pass.ensures.front c.pass.ensures.ended).fits

pub read_gap-requires-clause-read : goal.read_gap-requires-clause-read
read_gap-requires-clause-read c =
    let u = c.args.«unread».now in
    let step = c.in_ok-step.step in
    let read = subst (λ o. IfNone o ((length c.run.result.now - step.used ≤ 65536) × HasRead c.args.side c.read_bytes.new.http (length c.run.result.now - step.used))) c.in-None-2.is c.in_ok-step.ensures.unused in
    subst (HasRead c.args.side c.read_bytes.new.http)
    (let e : length c.run.result.now - step.used ≡ length (run_of c.pass.new.self) = omega (
      arith,
      ap length c.run.ensures.bytes,
      ap (λ l. length (bytes_before_gap l)) c.pass.ensures.places,
      ap length (run-drop step.used (places_of u) (omega (arith, c.in_ok-step.ensures.used.within, ap length c.run.ensures.bytes))),
      length-drop step.used (run_of u),
    ) in e) read.1

pub returns-in-Some-clause-reads : goal.returns-in-Some-clause-reads
returns-in-Some-clause-reads c =
    subst (λ o. ReadsOn c.args.side c.args.http.now c.read_bytes.new.http c.args.«unread».now c.pass.new.self o) (c.in-Some.is ∙ sym (ap (λ x. Some x) c.in-Some.unit-is))
    (told_turn c.args.side c.args.http.now c.tell_end.new.http c.read_bytes.new.http c.args.«unread».now c.pass.new.self c.in_ok-step.step.«unit» c.tell_end.ensures
    (bytes_turn c.args.side c.tell_end.new.http c.read_bytes.new.http c.args.«unread».now c.pass.new.self c.run.result.now c.in_ok-step.step c.run.ensures.bytes
    (fits_told c.args.side c.args.http.now c.tell_end.new.http c.args.«unread».now c.requires c.tell_end.ensures)
    c.in_ok-step.ensures.found c.in_ok-step.ensures.stands c.in_ok-step.ensures.used c.pass.ensures.places c.pass.ensures.front c.pass.ensures.ended))

pub returns-in-None-clause-reads : goal.returns-in-None-clause-reads
returns-in-None-clause-reads c =
    subst (λ o. ReadsOn c.args.side c.args.http.now c.read_bytes.new.http c.args.«unread».now c.pass.new.self o) c.in-None.is
    (told_turn c.args.side c.args.http.now c.tell_end.new.http c.read_bytes.new.http c.args.«unread».now c.pass.new.self c.in_ok-step.step.«unit» c.tell_end.ensures
    (bytes_turn c.args.side c.tell_end.new.http c.read_bytes.new.http c.args.«unread».now c.pass.new.self c.run.result.now c.in_ok-step.step c.run.ensures.bytes
    (fits_told c.args.side c.args.http.now c.tell_end.new.http c.args.«unread».now c.requires c.tell_end.ensures)
    c.in_ok-step.ensures.found c.in_ok-step.ensures.stands c.in_ok-step.ensures.used c.pass.ensures.places c.pass.ensures.front c.pass.ensures.ended))

pub returns-in-None-clause-none : goal.returns-in-None-clause-none
returns-in-None-clause-none c =
    let step = c.in_ok-step.step in
    let unused = subst (λ o. IfNone o ((length c.run.result.now - step.used ≤ 65536) × HasRead c.args.side c.read_bytes.new.http (length c.run.result.now - step.used))) c.in-None.is c.in_ok-step.ensures.unused in
    bytes_none c.args.side c.args.http.now c.tell_end.new.http c.read_bytes.new.http c.args.«unread».now c.pass.new.self c.run.result.now step.used c.run.ensures.bytes c.tell_end.ensures
    (λ streams units stands lent. subst (λ o. MatchOption o (IsAll c.tell_end.new.http c.args.side (of_side c.args.side streams) c.run.result.now → next c.args.side streams units ≡ None)
    (λ one. next c.args.side streams units ≡ Some one)) c.in-None.is (c.in_ok-step.ensures.found streams units stands lent))
    c.in_ok-step.ensures.used.within c.pass.ensures.places (c.gap.ensures.end c.if-gap-eq0.true) unused.0 (bytes_within c.pass.new.self)
    (subst (λ o. ReadsOn c.args.side c.tell_end.new.http c.read_bytes.new.http c.args.«unread».now c.pass.new.self o) c.in-None.is
    (bytes_turn c.args.side c.tell_end.new.http c.read_bytes.new.http c.args.«unread».now c.pass.new.self c.run.result.now step c.run.ensures.bytes
    (fits_told c.args.side c.args.http.now c.tell_end.new.http c.args.«unread».now c.requires c.tell_end.ensures)
    c.in_ok-step.ensures.found c.in_ok-step.ensures.stands c.in_ok-step.ensures.used c.pass.ensures.places c.pass.ensures.front c.pass.ensures.ended)) unused.1

pub returns-in-None-2-clause-reads : goal.returns-in-None-2-clause-reads
returns-in-None-2-clause-reads c =
    turns c.args.side c.args.http.now c.read_bytes.new.http c.read_gap.new.http c.args.«unread».now c.pass.new.self c.read_gap.new.«unread» (unit_of c.read_gap.result)
    (subst (λ o. ReadsOn c.args.side c.args.http.now c.read_bytes.new.http c.args.«unread».now c.pass.new.self o) c.in-None-2.is
    (told_turn c.args.side c.args.http.now c.tell_end.new.http c.read_bytes.new.http c.args.«unread».now c.pass.new.self c.in_ok-step.step.«unit» c.tell_end.ensures
    (bytes_turn c.args.side c.tell_end.new.http c.read_bytes.new.http c.args.«unread».now c.pass.new.self c.run.result.now c.in_ok-step.step c.run.ensures.bytes
    (fits_told c.args.side c.args.http.now c.tell_end.new.http c.args.«unread».now c.requires c.tell_end.ensures)
    c.in_ok-step.ensures.found c.in_ok-step.ensures.stands c.in_ok-step.ensures.used c.pass.ensures.places c.pass.ensures.front c.pass.ensures.ended)))
    c.read_gap.ensures.reads

pub returns-in-None-2-clause-none : goal.returns-in-None-2-clause-none
returns-in-None-2-clause-none c =
    waits_none c.args.side c.args.http.now c.read_bytes.new.http c.args.«unread».now c.pass.new.self c.read_gap.new.«unread» c.read_gap.result
    (subst (λ o. ReadsOn c.args.side c.args.http.now c.read_bytes.new.http c.args.«unread».now c.pass.new.self o) c.in-None-2.is
    (told_turn c.args.side c.args.http.now c.tell_end.new.http c.read_bytes.new.http c.args.«unread».now c.pass.new.self c.in_ok-step.step.«unit» c.tell_end.ensures
    (bytes_turn c.args.side c.tell_end.new.http c.read_bytes.new.http c.args.«unread».now c.pass.new.self c.run.result.now c.in_ok-step.step c.run.ensures.bytes
    (fits_told c.args.side c.args.http.now c.tell_end.new.http c.args.«unread».now c.requires c.tell_end.ensures)
    c.in_ok-step.ensures.found c.in_ok-step.ensures.stands c.in_ok-step.ensures.used c.pass.ensures.places c.pass.ensures.front c.pass.ensures.ended)))
    c.read_gap.ensures.none

pub returns-in-None-2-clause-fewer : goal.returns-in-None-2-clause-fewer
returns-in-None-2-clause-fewer c =
    let places = places_of c.args.«unread».now in
    let used = c.in_ok-step.step.used in
    let less : length (places_of c.pass.new.self) ≡ length places - used = ap length c.pass.ensures.places ∙ length-drop used places in
    fewer_still c.read_gap.result (length (places_of c.read_gap.new.«unread»)) (length (places_of c.pass.new.self)) (length places) (omega (arith, less)) c.read_gap.ensures.fewer
