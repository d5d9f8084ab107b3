use Rattle.std.proofs.Common.{sym, subst}
use Rattle.zk_http.specs.HalfTurns.{MovesOver}
use Rattle.zk_http.proofs.HalfLaws.{head_gap_gave}
use Rattle.zk_http.proofs.half.Half.head_in_gap.Goals as goal

pub returns-clause-moves : goal.returns-clause-moves
returns-clause-moves c side stream case units after is nowhere short has =
    subst (MovesOver side c.told.result.0 stream case units c.told.result.1.used) (sym c.told.ensures.step.1)
    (head_gap_gave side c.args.self c.told.result.0 stream case units c.args.unused c.args.places after c.requires.some is nowhere short has
    (record { used = c.told.ensures.half.0; ended = c.told.ensures.half.1; state = c.told.ensures.half.2 }))
