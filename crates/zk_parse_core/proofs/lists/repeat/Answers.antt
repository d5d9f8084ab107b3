use Rattle.std.proofs.Common.{◌≡◌, ℕ, suc, ◌+◌, ◌-◌, length, sym, ap, ◌∙◌, arith}
use Rattle.std.proofs.lemmas.Result.{err_from_is_err_and}
use Rattle.zk_parse_core.specs.Reading.{with_front, repeated}
use Rattle.zk_parse_core.proofs.LoopLaws.{goes_further, breaks_off, runs_out, is_done, fails}
use Rattle.zk_parse_core.proofs.lists.repeat.Goals as goal

pub returns-then-not-goes_on : goal.returns-then-not-goes_on
returns-then-not-goes_on g c =
    let turns = c.args.turns.now in
    c.loop-turn.invariant ∙ is_done (g.N.Turns.goes turns) (g.N.Turns.at turns) c.loop-turn.found c.loop-turn.tokens (c.left-turn-end.result - c.loop-turn._turn) (sym c.goes_on.ensures ∙ c.if-not-goes_on.true)

pub returns-in_err-turn : goal.returns-in_err-turn
returns-in_err-turn g c =
    let turns = c.args.turns.now in
    let whole = with_front c.args.found (repeated (g.N.Turns.goes turns) (g.N.Turns.at turns) (length c.args.tokens.now) c.args.tokens.now) in
    let exit = c.from_residual in
    let p = err_from_is_err_and exit.result exit.ensures.1 in
    rw (p.1, p.2) (fails c.in_err-turn.field-0.0 (g.N.Turns.at turns c.loop-turn.tokens) whole c.turn.new.tokens c.turn.new.tokens
    (λ none. c.loop-turn.invariant ∙ breaks_off (g.N.Turns.goes turns) (g.N.Turns.at turns) c.loop-turn.found c.loop-turn.tokens (c.left-turn-end.result - c.loop-turn._turn) (sym c.goes_on.ensures ∙ c.if-not-goes_on.false) none)
    c.in_err-turn.ensures)

pub loop-turn-preserved : goal.loop-turn-preserved
loop-turn-preserved g c =
    let turns = c.args.turns.now in
    let n : ℕ = c.left-turn-end.result - (c.loop-turn._turn + 1) in
    let more : c.left-turn-end.result - c.loop-turn._turn ≡ suc n = omega arith in
    rw c.in_ok-push.ensures.ok (
    c.loop-turn.invariant
    ∙ ap (λ k. with_front c.loop-turn.found (repeated (g.N.Turns.goes turns) (g.N.Turns.at turns) k c.loop-turn.tokens)) more
    ∙ goes_further (g.N.Turns.goes turns) (g.N.Turns.at turns) c.loop-turn.found c.loop-turn.tokens c.in_ok-turn.field-0 c.turn.new.tokens n (sym c.goes_on.ensures ∙ c.if-not-goes_on.false) c.in_ok-turn.ensures)

pub returns-then-goes_on : goal.returns-then-goes_on
returns-then-goes_on g c =
    let turns = c.args.turns.now in
    let none : c.left-turn-end.result - c.loop-turn._turn ≡ 0 = omega arith in
    c.loop-turn.invariant
    ∙ ap (λ k. with_front c.loop-turn.found (repeated (g.N.Turns.goes turns) (g.N.Turns.at turns) k c.loop-turn.tokens)) none
    ∙ runs_out (g.N.Turns.goes turns) (g.N.Turns.at turns) c.loop-turn.found c.loop-turn.tokens (sym c.goes_on-2.ensures ∙ c.if-goes_on.true)

pub returns-else-goes_on : goal.returns-else-goes_on
returns-else-goes_on g c =
    let turns = c.args.turns.now in
    c.loop-turn.invariant ∙ is_done (g.N.Turns.goes turns) (g.N.Turns.at turns) c.loop-turn.found c.loop-turn.tokens (c.left-turn-end.result - c.loop-turn._turn) (sym c.goes_on-2.ensures ∙ c.if-goes_on.false)
