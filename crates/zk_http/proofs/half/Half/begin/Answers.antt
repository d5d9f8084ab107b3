use Rattle.std.proofs.Common.{sym, ap, subst, ◌∙◌, arith}
use Rattle.zk_http.specs.HalfTurns.{IsAllOf, Moves}
use Rattle.zk_http.specs.HalfStanding.{between_case}
use Rattle.zk_http.specs.Reading.{phase_of}
use Rattle.zk_http.proofs.HalfLaws.{begins_head, lent_within, over_none, stays_over, waiting_moves}
use Rattle.std.proofs.lemmas.Result.{IfOk-weaker}
use Rattle.zk_http.proofs.half.Half.begin.Goals as goal

pub returns-in-Free-clause-moves : goal.returns-in-Free-clause-moves
returns-in-Free-clause-moves c =
    IfOk-weaker c.head.result _ _ (λ moved moves stream case units stands lent is.
    let here = is (ap phase_of c.requires.state) ∙ ap between_case c.in-Free.is in
    moves stream case units (begins_head c.args.side c.args.self stream case units c.requires.state stands here) (c.new.ensures.knows _ _) lent)
    c.head.ensures.moves

pub returns-in-Waiting-clause-moves : goal.returns-in-Waiting-clause-moves
returns-in-Waiting-clause-moves c stream case units stands lent is =
    let here = is (ap phase_of c.requires.state) ∙ ap between_case c.in-Waiting.is in
    let within = lent_within c.args.self stream c.args.bytes.now lent.bytes_are stands.within in
    waiting_moves c.args.side c.args.self c.waiting.result.0 stream case units c.args.bytes.now c.waiting.result.1.unit
    (c.waiting.ensures.moves c.args.side stream case units stands here within)

pub returns-in-Tunnelled-clause-moves : goal.returns-in-Tunnelled-clause-moves
returns-in-Tunnelled-clause-moves c stream case units stands lent is =
    let here = is (ap phase_of c.requires.state) ∙ ap between_case c.in-Tunnelled.is in
    let within = lent_within c.args.self stream c.args.bytes.now lent.bytes_are stands.within in
    subst (Moves c.args.side c.args.self c.on.result.0 stream case units c.args.bytes.now) (sym c.on.ensures.step.1) (
      stays_over c.args.side c.on.result.0 stream case units here (omega (arith, c.on.ensures.half.0))
          (λ over. stands.told (sym c.on.ensures.half.1 ∙ over)) c.on.ensures.half.2,
      λ (all : IsAllOf c.args.self stream c.args.bytes.now). over_none stream c.args.side case units here,
    )
