use Rattle.std.proofs.Common.{[]}
use Rattle.std.proofs.lemmas.Result.{err_from_is_err_and}
use Rattle.zk_events.specs.Run.{New, Begun}
use Rattle.zk_top.proofs.Playing.{given_at_first, memory_in_play}
use Rattle.zk_top.proofs.player.Player.start.Goals as goal

pub returns-in_err-end-clause-stopped : goal.returns-in_err-end-clause-stopped
returns-in_err-end-clause-stopped g c =
    let now = g.S.Shelf.outside c.args.shelf.now in
    let p = err_from_is_err_and c.from_residual.result c.from_residual.ensures.1 in
    rw (p.1, p.2) (λ first program budget plays.
    memory_in_play first program budget New (Begun []) c.args.self.now now plays (given_at_first program budget))

pub returns-in_err-give_all-clause-stopped : goal.returns-in_err-give_all-clause-stopped
returns-in_err-give_all-clause-stopped g c =
    let exit = c.from_residual-in_err-give_all in
    let p = err_from_is_err_and exit.result exit.ensures.1 in
    rw (p.1, p.2) (λ first program budget plays.
    c.in_err-give_all.ensures.stopped first program budget (Begun []) plays.told (record { engine = c.in_ok-end.ensures.stands program budget plays.told plays.gives.engine; given = plays.gives.given }))

pub returns-clause-plays : goal.returns-clause-plays
returns-clause-plays g c first program budget plays =
    c.in_ok-give_all.ensures.plays first program budget (Begun []) plays.told (record { engine = c.in_ok-end.ensures.stands program budget plays.told plays.gives.engine; given = plays.gives.given })
