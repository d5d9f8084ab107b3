use Rattle.std.proofs.Common.{ℕ, List, [], IfErr, subst}
use Rattle.zk_base.specs.declared.endings.Ending.TheVariants.{Done}
use Rattle.zk_top.specs.Outcome.{ending_so}
use Rattle.zk_top.specs.Parts.{BreaksOff}
use Rattle.zk_top.proofs.entry.perform.Goals as goal

pub returns-in-Run-clause-stopped : goal.returns-in-Run-clause-stopped
returns-in-Run-clause-stopped g c = rw c.in-Run.is c.run_scripts.ensures.stopped

pub returns-in-List-clause-stopped : goal.returns-in-List-clause-stopped
returns-in-List-clause-stopped g c = rw c.in-List.is c.list.ensures.stopped

pub returns-in-Run-clause-done : goal.returns-in-Run-clause-done
returns-in-Run-clause-done g c = rw c.in-Run.is c.run_scripts.ensures.done

pub returns-in-Generate-clause-stopped : goal.returns-in-Generate-clause-stopped
returns-in-Generate-clause-stopped g c = rw c.in-Generate.is c.generate.ensures.stopped

pub returns-in-Help-clause-stopped : goal.returns-in-Help-clause-stopped
returns-in-Help-clause-stopped g c =
    let old = g.S.Shelf.outside c.args.shelf.now in
    let new = g.S.Shelf.outside c.answer.new.shelf in
    rw c.in-Help.is (subst (λ (text : List ℕ). IfErr c.answer.result (λ stop. BreaksOff (λ _. ending_so Done text []) old stop new)) c.help.ensures c.answer.ensures.stopped)

pub returns-in-Version-clause-stopped : goal.returns-in-Version-clause-stopped
returns-in-Version-clause-stopped g c =
    let old = g.S.Shelf.outside c.args.shelf.now in
    let new = g.S.Shelf.outside c.answer-in-Version.new.shelf in
    rw c.in-Version.is
    (subst (λ (text : List ℕ). IfErr c.answer-in-Version.result (λ stop. BreaksOff (λ _. ending_so Done text []) old stop new)) c.version.ensures c.answer-in-Version.ensures.stopped)
