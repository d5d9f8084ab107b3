use Rattle.std.proofs.Common.{[], refl, subst}
use Rattle.std.proofs.lemmas.Result.{err_from_is_err_and}
use Rattle.zk_outcome.specs.declared.stop.Stop.TheVariants.{NoMemory}
use Rattle.zk_outcome.specs.Parts.{DoesAll, DoesPart}
use Rattle.zk_outcome.proofs.Doing.{out_of_memory}
use Rattle.zk_top.specs.Outcome.{generating}
use Rattle.zk_top.proofs.OverGenerated.{broken_summary, command_of_generated, generated_part, generated_said}
use Rattle.zk_top.proofs.generated.generate.Goals as goal

pub returns-in_err-ending-clause-stopped : goal.returns-in_err-ending-clause-stopped
returns-in_err-ending-clause-stopped g c =
    let old = g.S.Shelf.outside c.args.shelf.now in
    let wanted = generating c.args.start c.args.count in
    let p = err_from_is_err_and c.from_residual.result c.from_residual.ensures.1 in
    rw (p.1, p.2) (broken_summary wanted old NoMemory old (out_of_memory [] wanted.said [] old old refl))

pub returns-in_err-say-clause-stopped : goal.returns-in_err-say-clause-stopped
returns-in_err-say-clause-stopped g c =
    let old = g.S.Shelf.outside c.args.shelf.now in
    let new = g.S.Shelf.outside c.say.new.shelf in
    let stop = c.in_err-say.field-0.0 in
    let report = c.in_ok-ending.field-0 in
    let exit = c.from_residual-in_err-say in
    let p = err_from_is_err_and exit.result exit.ensures.1 in
    rw (p.1, p.2) (generated_part c.args.start c.args.count report old stop new c.in_ok-ending.ensures
    (subst (λ text. DoesPart [] text [] old stop new) c.deref.ensures.value c.in_err-say.ensures.stopped))

pub returns-clause-done : goal.returns-clause-done
returns-clause-done g c =
    let old = g.S.Shelf.outside c.args.shelf.now in
    let new = g.S.Shelf.outside c.say.new.shelf in
    let report = c.in_ok-ending.field-0 in
    generated_said c.args.start c.args.count report old new c.in_ok-ending.ensures
    (subst (λ text. DoesAll [] text [] old new) c.deref.ensures.value c.in_ok-say.ensures.said)

pub returns-clause-command : goal.returns-clause-command
returns-clause-command g c =
    let report = c.in_ok-ending.field-0 in
    command_of_generated c.args.start c.args.count report c.in_ok-ending.ensures
