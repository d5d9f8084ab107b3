use Rattle.std.proofs.Common.{sym, subst, ◌∙◌}
use Rattle.std.proofs.lemmas.Result.{err_from_is_err_and}
use Rattle.zk_machine.specs.Standing.{with_out}
use Rattle.zk_events.specs.Run.{progress_at}
use Rattle.zk_typed.specs.Running.{world_in}
use Rattle.zk_top.specs.Replay.{output_at}
use Rattle.zk_top.specs.Sink.{HasTaken}
use Rattle.zk_top.specs.Writing.{Begins, and_out, output_of}
use Rattle.zk_top.proofs.Giving.{some_further}
use Rattle.zk_top.proofs.Playing.{given_begins, told_more, told_same}
use Rattle.zk_top.proofs.player.Player.give_all.Goals as goal

pub returns-in_err-give-clause-stopped : goal.returns-in_err-give-clause-stopped
returns-in_err-give-clause-stopped g c =
    let new = g.S.Shelf.outside c.give.new.shelf in
    let out = c.in-Some.out in
    let p = err_from_is_err_and c.from_residual.result c.from_residual.ensures.1 in
    rw (p.1, p.2) (λ first program budget stage told gives.
    let (more, far) = c.outs.invariant.gives first program budget stage told gives in
    let stands = c.in-Some.ensures.some program budget stage more far.engine in
    let begins : Begins (and_out (output_of more) out) (output_at program budget stage) =
    subst (λ output. Begins output (output_at program budget stage)) (told_more more out) (given_begins program budget stage (with_out more out) (c.lines_given.ensures _ program budget stage (with_out more out) stands)) in
    some_further first.outside (and_out (output_of more) out) (output_at program budget stage) c.in_err-give.field-0.0 new begins (c.in_err-give.ensures.stopped first (output_of more) far.given))

pub outs-preserved : goal.outs-preserved
outs-preserved g c =
    let new = g.S.Shelf.outside c.give.new.shelf in
    let out = c.in-Some.out in
    record {
      gives = λ first program budget stage told gives.
          let (more, far) = c.outs.invariant.gives first program budget stage told gives in (
            with_out more out,
            record {
              engine = c.in-Some.ensures.some program budget stage more far.engine;
              given = subst (λ output. HasTaken first output c.give.new.self new) (sym (told_more more out)) (c.in_ok-give.ensures.taken first (output_of more) far.given);
            },
          );
      ready = c.in_ok-give.ensures.ready;
      input = (c.in_ok-give.ensures.input.0 ∙ c.outs.invariant.input.0, c.in_ok-give.ensures.input.1 ∙ c.outs.invariant.input.1);
    }

pub returns-clause-plays : goal.returns-clause-plays
returns-clause-plays g c first program budget stage told gives =
    let (more, far) = c.outs.invariant.gives first program budget stage told gives in
    let (lines, rows, stands) = c.in_default.ensures.none program budget stage more far.engine in
    record { told = more; gives = record { engine = stands; given = far.given }; all = told_same more (world_in (progress_at program budget stage)) lines rows }
