use Rattle.std.proofs.Common.{sym, ap, subst, ◌∙◌, arith}
use Rattle.zk_http.specs.HalfStanding.{between_case, waits_if}
use Rattle.zk_http.specs.HalfTurns.{MovesOver}
use Rattle.zk_http.proofs.HalfLaws.{begins_head, nowhere_none, passes_over}
use Rattle.zk_http.proofs.half.Half.begin_in_gap.Goals as goal

pub returns-in-Free-clause-moves : goal.returns-in-Free-clause-moves
returns-in-Free-clause-moves c side stream case units stands has is =
    let before = is ∙ ap between_case c.in-Free.is in
    let none = c.requires.read (ap waits_if c.in-Free.is) in
    c.head_in_gap.ensures.moves side stream case units c.args.after (begins_head side c.args.self stream case units c.requires.state stands before)
    (nowhere_none c.args.self stream c.args.unused c.args.places c.args.after has none) (omega arith) has

pub returns-in-Tunnelled-clause-moves : goal.returns-in-Tunnelled-clause-moves
returns-in-Tunnelled-clause-moves c side stream case units stands has is =
    let over = is ∙ ap between_case c.in-Tunnelled.is in
    subst (MovesOver side c.on.result.0 stream case units c.on.result.1.used) (sym c.on.ensures.step.1)
    (passes_over side c.on.result.0 stream case units c.on.result.1.used over (omega (arith, has.front, c.on.ensures.half.0))
    (λ ended. stands.told (sym c.on.ensures.half.1 ∙ ended)) c.on.ensures.half.2 (omega (arith, c.on.ensures.step.0, c.requires.some)))
