use Rattle.std.proofs.Common.{sym, subst, ◌∙◌, []}
use Rattle.std.proofs.lemmas.Result.{err_from_is_err_and, IfOk-weaker, IfErr-weaker}
use Rattle.zk_top.specs.Outcome.{run_behind}
use Rattle.zk_top.specs.Parts.{Fulfils, BreaksOff}
use Rattle.zk_top.proofs.OverDefaults.{stopped_at_once, refused_at_once, command_of_defaults}
use Rattle.zk_top.proofs.running.run_scripts.Goals as goal

pub returns-in_err-before-clause-stopped : goal.returns-in_err-before-clause-stopped
returns-in_err-before-clause-stopped g c =
    let old = g.S.Shelf.outside c.args.shelf.now in
    let p = err_from_is_err_and c.from_residual.result c.from_residual.ensures.1 in
    rw (p.1, p.2) (stopped_at_once c.args.file.now c.args.settings c.args.scripts.now old)

pub returns-in-Accepted-clause-done : goal.returns-in-Accepted-clause-done
returns-in-Accepted-clause-done g c =
    let old = g.S.Shelf.outside c.args.shelf.now in
    let new = g.S.Shelf.outside c.run_behind.new.shelf in
    let file = c.args.file.now in
    IfOk-weaker c.run_behind.result _ _ (λ ending does. subst (λ before. Fulfils (λ inputs. run_behind file c.args.settings c.args.scripts.now inputs before) [] old ending new)
    (sym c.in-Accepted.is ∙ c.in_ok-before.ensures) does) c.run_behind.ensures.done

pub returns-in-Accepted-clause-stopped : goal.returns-in-Accepted-clause-stopped
returns-in-Accepted-clause-stopped g c =
    let old = g.S.Shelf.outside c.args.shelf.now in
    let new = g.S.Shelf.outside c.run_behind.new.shelf in
    let file = c.args.file.now in
    IfErr-weaker c.run_behind.result _ _ (λ stop does. subst (λ before. BreaksOff (λ inputs. run_behind file c.args.settings c.args.scripts.now inputs before) old stop new)
    (sym c.in-Accepted.is ∙ c.in_ok-before.ensures) does) c.run_behind.ensures.stopped

pub returns-in-Refused-clause-done : goal.returns-in-Refused-clause-done
returns-in-Refused-clause-done g c =
    refused_at_once c.args.file.now c.args.settings c.args.scripts.now c.in-Refused.ending (g.S.Shelf.outside c.args.shelf.now) (sym c.in-Refused.is ∙ c.in_ok-before.ensures)

pub returns-in-Refused-clause-command : goal.returns-in-Refused-clause-command
returns-in-Refused-clause-command g c =
    command_of_defaults c.args.settings c.in-Refused.ending (sym c.in-Refused.is ∙ c.in_ok-before.ensures)
