use Rattle.std.proofs.Common.{subst}
use Rattle.std.proofs.lemmas.Result.{err_from_is_err_and, IfOk-weaker, IfErr-weaker}
use Rattle.zk_top.specs.Compiling.{FindsCode}
use Rattle.zk_top.proofs.OverCapture.{command_refusal}
use Rattle.zk_top.proofs.OverScript.{fulfilled_run, stopped_run, refused_scripts, stopped_scripts, found_program, found_none}
use Rattle.zk_top.proofs.running.run_behind.Goals as goal

pub returns-in_err-runnable-clause-stopped : goal.returns-in_err-runnable-clause-stopped
returns-in_err-runnable-clause-stopped g c =
    let p = err_from_is_err_and c.from_residual.result c.from_residual.ensures.1 in
    rw (p.1, p.2) (stopped_scripts c.args.file.now c.args.settings c.args.before c.args.scripts.now (g.S.Shelf.outside c.args.shelf.now) c.in_err-runnable.field-0.0 (g.S.Shelf.outside c.read_program.new.shelf)
    c.in_err-runnable.ensures.stopped)

pub returns-in-Accepted-clause-done : goal.returns-in-Accepted-clause-done
returns-in-Accepted-clause-done g c =
    let old = g.S.Shelf.outside c.args.shelf.now in
    let mid = g.S.Shelf.outside c.read_program.new.shelf in
    let new = g.S.Shelf.outside c.run_program.new.shelf in
    let names = c.args.scripts.now in
    let finds = subst (λ found. FindsCode c.args.before names old found mid) c.in-Accepted.is c.in_ok-runnable.ensures.found in
    let (program, is, runs) = found_program c.args.before names c.in-Accepted.runnable old mid finds in
    IfOk-weaker c.run_program.result _ _ (λ ending ran. fulfilled_run c.args.file.now c.args.settings c.args.before names program old mid ending new is (ran program runs)) c.run_program.ensures.done

pub returns-in-Accepted-clause-stopped : goal.returns-in-Accepted-clause-stopped
returns-in-Accepted-clause-stopped g c =
    let old = g.S.Shelf.outside c.args.shelf.now in
    let mid = g.S.Shelf.outside c.read_program.new.shelf in
    let new = g.S.Shelf.outside c.run_program.new.shelf in
    let names = c.args.scripts.now in
    let finds = subst (λ found. FindsCode c.args.before names old found mid) c.in-Accepted.is c.in_ok-runnable.ensures.found in
    let (program, is, runs) = found_program c.args.before names c.in-Accepted.runnable old mid finds in
    IfErr-weaker c.run_program.result _ _ (λ stop part. stopped_run c.args.file.now c.args.settings c.args.before names program old mid stop new is (part program runs)) c.run_program.ensures.stopped

pub returns-in-Refused-clause-done : goal.returns-in-Refused-clause-done
returns-in-Refused-clause-done g c =
    let old = g.S.Shelf.outside c.args.shelf.now in
    let new = g.S.Shelf.outside c.read_program.new.shelf in
    let names = c.args.scripts.now in
    let finds = subst (λ found. FindsCode c.args.before names old found new) c.in-Refused.is c.in_ok-runnable.ensures.found in
    refused_scripts c.args.file.now c.args.settings c.args.before names old c.in-Refused.ending new (found_none c.args.before names c.in-Refused.ending old new finds)

pub returns-in-Refused-clause-command : goal.returns-in-Refused-clause-command
returns-in-Refused-clause-command g c =
    let old = g.S.Shelf.outside c.args.shelf.now in
    let new = g.S.Shelf.outside c.read_program.new.shelf in
    let names = c.args.scripts.now in
    let finds = subst (λ found. FindsCode c.args.before names old found new) c.in-Refused.is c.in_ok-runnable.ensures.found in
    command_refusal c.in-Refused.ending (found_none c.args.before names c.in-Refused.ending old new finds).refusal
