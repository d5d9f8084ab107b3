use Rattle.std.proofs.Common.{[], ◌++◌, subst, append-nil}
use Rattle.std.proofs.lemmas.Result.{err_from_is_err_and}
use Rattle.zk_events.specs.Run.{Begun, Ended, progress_at}
use Rattle.zk_typed.specs.Running.{world_in}
use Rattle.zk_outcome.specs.declared.stop.Stop.TheVariants.{NoMemory}
use Rattle.zk_top.specs.Replay.{output_at}
use Rattle.zk_top.specs.Sink.{TakesSome}
use Rattle.zk_top.proofs.Playing.{stays_begins, memory_in_play}
use Rattle.zk_top.proofs.player.Player.finish.Goals as goal

pub returns-in_err-end-clause-stopped : goal.returns-in_err-end-clause-stopped
returns-in_err-end-clause-stopped g c =
    let now = g.S.Shelf.outside c.args.shelf.now in
    let last = c.args.last in
    let p = err_from_is_err_and c.from_residual.result c.from_residual.ensures.1 in
    rw (p.1, p.2) (λ first program budget items plays.
    subst (λ xs. TakesSome (output_at program budget (Ended xs last)) first NoMemory now) (append-nil items)
    (memory_in_play first program budget (Begun items) (Ended (items ++ []) last) c.args.self.now now plays
    (stays_begins (world_in (progress_at program budget (Begun items))) (world_in (progress_at program budget (Ended (items ++ []) last))) (c.lines_stay.ensures.end program budget items [] last))))

pub returns-in_err-give_all-clause-stopped : goal.returns-in_err-give_all-clause-stopped
returns-in_err-give_all-clause-stopped g c =
    let exit = c.from_residual-in_err-give_all in
    let p = err_from_is_err_and exit.result exit.ensures.1 in
    rw (p.1, p.2) (λ first program budget items plays.
    c.in_err-give_all.ensures.stopped first program budget (Ended items c.args.last) plays.told (record { engine = c.in_ok-end.ensures.stands program budget items plays.told plays.gives.engine; given = plays.gives.given }))

pub returns-clause-plays : goal.returns-clause-plays
returns-clause-plays g c first program budget items plays =
    c.in_ok-give_all.ensures.plays first program budget (Ended items c.args.last) plays.told (record { engine = c.in_ok-end.ensures.stands program budget items plays.told plays.gives.engine; given = plays.gives.given })
