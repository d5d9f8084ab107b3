use Rattle.std.proofs.Common.{[], ◌∷◌, ◌++◌}
use Rattle.std.proofs.lemmas.Result.{err_from_is_err_and}
use Rattle.zk_events.specs.Run.{Begun, progress_at}
use Rattle.zk_typed.specs.Running.{world_in}
use Rattle.zk_top.proofs.Playing.{stays_begins, memory_in_play}
use Rattle.zk_top.proofs.player.Player.take_item.Goals as goal

pub returns-in_err-end-clause-stopped : goal.returns-in_err-end-clause-stopped
returns-in_err-end-clause-stopped g c =
    let now = g.S.Shelf.outside c.args.shelf.now in
    let item = c.args.item.now in
    let p = err_from_is_err_and c.from_residual.result c.from_residual.ensures.1 in
    rw (p.1, p.2) (λ first program budget items plays.
    memory_in_play first program budget (Begun items) (Begun (items ++ item ∷ [])) c.args.self.now now plays
    (stays_begins (world_in (progress_at program budget (Begun items))) (world_in (progress_at program budget (Begun (items ++ item ∷ [])))) (c.lines_stay.ensures.items program budget items (item ∷ []))))

pub returns-in_err-give_all-clause-stopped : goal.returns-in_err-give_all-clause-stopped
returns-in_err-give_all-clause-stopped g c =
    let exit = c.from_residual-in_err-give_all in
    let p = err_from_is_err_and exit.result exit.ensures.1 in
    rw (p.1, p.2) (λ first program budget items plays.
    c.in_err-give_all.ensures.stopped first program budget (Begun (items ++ c.args.item.now ∷ [])) plays.told (record { engine = c.in_ok-end.ensures.stands program budget items plays.told plays.gives.engine; given = plays.gives.given }))

pub returns-clause-plays : goal.returns-clause-plays
returns-clause-plays g c first program budget items plays =
    c.in_ok-give_all.ensures.plays first program budget (Begun (items ++ c.args.item.now ∷ [])) plays.told (record { engine = c.in_ok-end.ensures.stands program budget items plays.told plays.gives.engine; given = plays.gives.given })
