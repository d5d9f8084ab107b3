use Rattle.std.proofs.Common.{◌≡◌, ◌++◌, length, take, drop, sym, ap, subst, ◌∙◌}
use Rattle.zk_base.specs.Places.{bytes_before_gap}
use Rattle.zk_http.specs.declared.head.Told.TheVariants.{Is, Waits}
use Rattle.zk_http.specs.declared.search.Ending.TheVariants as ending
use Rattle.zk_http.specs.Heads.{head_limit}
use Rattle.zk_http.specs.HalfTurns.{IsAllOf, Moves}
use Rattle.zk_http.specs.HeadTurns.{IsTold, IsToldWithin}
use Rattle.zk_http.specs.Search.{Knows}
use Rattle.zk_http.specs.Turns.{places_of}
use Rattle.zk_http.proofs.HalfLaws.{head_gave, head_goes, head_none, lent_split, nothing_behind}
use Rattle.std.proofs.lemmas.List.{append-nil}
use Rattle.zk_http.proofs.FollowLaws.{before_gap-places}
use Rattle.zk_http.proofs.half.Half.head.Goals as goal

pub returns-in-Is-clause-moves : goal.returns-in-Is-clause-moves
returns-in-Is-clause-moves c stream case units is knows lent =
    let bytes = c.args.bytes.now in
    let tail = drop (length bytes) (drop c.args.self.used stream.places) in
    let told : IsTold c.args.side bytes (Is c.in-Is.len c.in-Is.text c.in-Is.what) =
    subst (IsTold c.args.side bytes) c.in-Is.is
    (c.in_ok-len.ensures.told (subst (λ all. Knows c.args.search ending.Head (take head_limit all)) (sym lent.bytes_are) knows)) in
    let counts : IsToldWithin (length bytes) (Is c.in-Is.len c.in-Is.text c.in-Is.what) = subst (IsToldWithin (length bytes)) c.in-Is.is c.in_ok-len.ensures.counts in
    subst (Moves c.args.side c.args.self c.told.result.0 stream case units bytes) (sym c.told.ensures.step.1)
    (head_gave c.args.side c.args.self c.told.result.0 stream case units bytes tail c.in-Is.len c.in-Is.text c.in-Is.what is
    (lent_split c.args.self stream bytes lent.bytes_are) told.0 counts.0 told.1
    (record { used = c.told.ensures.half.0; ended = c.told.ensures.half.1; state = c.told.ensures.half.2 }))

pub returns-in-Waits-clause-moves : goal.returns-in-Waits-clause-moves
returns-in-Waits-clause-moves c stream case units is knows lent =
    let bytes = c.args.bytes.now in
    let told : IsTold c.args.side bytes (Waits c.in-Waits.search) =
    subst (IsTold c.args.side bytes) c.in-Waits.is
    (c.in_ok-len.ensures.told (subst (λ all. Knows c.args.search ending.Head (take head_limit all)) (sym lent.bytes_are) knows)) in
    let before : bytes_before_gap (places_of bytes) ≡ bytes_before_gap (drop c.args.self.used stream.places) = before_gap-places bytes ∙ lent.bytes_are in
    subst (Moves c.args.side c.args.self c.on.result.0 stream case units bytes) (sym c.on.ensures.step.1) (
      head_goes c.args.side c.args.self c.on.result.0 c.in-Waits.search stream case units is
          (subst (λ all. Knows c.in-Waits.search ending.Head (take head_limit all)) before told.0)
          c.on.ensures.half.0 c.on.ensures.half.1 c.on.ensures.half.2,
      λ (all : IsAllOf c.args.self stream bytes).
          let none = nothing_behind (length bytes) c.args.self.used stream.places all.front in
          head_none c.args.side c.args.self stream case units (places_of bytes) is
          (lent_split c.args.self stream bytes lent.bytes_are ∙ ap (λ tail. places_of bytes ++ tail) none ∙ append-nil (places_of bytes)) told.1,
    )
