use Rattle.std.proofs.Common.{◌++◌, sym, ap, subst, ◌∙◌, arith}
use Rattle.zk_http.specs.BodyBytes.{data_by}
use Rattle.zk_http.specs.HalfTurns.{IsAllOf, Moves}
use Rattle.zk_http.specs.Reading.{phase_of}
use Rattle.zk_http.proofs.HalfLaws.{between_none, goes_on_head, lent_within, no_bytes_same, over_is, over_none, stays_over}
use Rattle.std.proofs.lemmas.Result.{IfOk-weaker}
use Rattle.zk_http.proofs.half.Half.bytes.Goals as goal

pub returns-in-Head-clause-moves : goal.returns-in-Head-clause-moves
returns-in-Head-clause-moves g c =
    IfOk-weaker c.head.result _ _ (λ moved moves stream case units stands lent is.
    let both = goes_on_head c.args.side c.args.self c.in-Head.search stream case units c.in-Head.is stands in
    moves stream case units both.0 both.1 lent)
    c.head.ensures.moves

pub returns-in-Over-clause-moves : goal.returns-in-Over-clause-moves
returns-in-Over-clause-moves g c stream case units stands lent is =
    let over = over_is c.args.side c.args.self stream case units c.in-Over.is stands in
    let within = lent_within c.args.self stream c.args.bytes.now lent.bytes_are stands.within in
    subst (Moves c.args.side c.args.self c.on.result.0 stream case units c.args.bytes.now) (sym c.on.ensures.step.1) (
      stays_over c.args.side c.on.result.0 stream case units over (omega (arith, c.on.ensures.half.0))
          (λ over. stands.told (sym c.on.ensures.half.1 ∙ over)) c.on.ensures.half.2,
      λ (all : IsAllOf c.args.self stream c.args.bytes.now). over_none stream c.args.side case units over,
    )

pub returns-in-Head-clause-given : goal.returns-in-Head-clause-given
returns-in-Head-clause-given g c =
    IfOk-weaker c.head.result _ _ (λ moved moves stream case units stands lent is before held.
    let both = goes_on_head c.args.side c.args.self c.in-Head.search stream case units c.in-Head.is stands in
    subst (λ all. g.B.Body.stands_for c.args.body.now (before ++ all)) (no_bytes_same case stream units c.args.self.used moved.0.used both.0.nothing) held)
    c.head.ensures.moves

pub returns-in-Between-clause-given : goal.returns-in-Between-clause-given
returns-in-Between-clause-given g c =
    IfOk-weaker c.begin.result _ _ (λ moved moves stream case units stands lent is before held.
    let here = is (ap phase_of c.in-Between.is) in
    subst (λ all. g.B.Body.stands_for c.args.body.now (before ++ all))
    (no_bytes_same case stream units c.args.self.used moved.0.used (between_none case c.args.between here)) held)
    c.begin.ensures.moves

pub returns-in-Over-clause-given : goal.returns-in-Over-clause-given
returns-in-Over-clause-given g c stream case units stands lent is before held =
    let over = over_is c.args.side c.args.self stream case units c.in-Over.is stands in
    subst (λ all. g.B.Body.stands_for c.args.body.now (before ++ all))
    (no_bytes_same case stream units c.args.self.used c.on.result.0.used (λ places. ap (λ case. data_by case places) over)) held
