use Rattle.std.proofs.Common.{[], OnOk, IfErr, sym, subst}
use Rattle.zk_outcome.specs.Parts.{DoesAll, DoesPart}
use Rattle.zk_outcome.proofs.Doing.{said_all, said_stopped}
use Rattle.zk_io.proofs.output.say.Goals as goal

pub returns-clause-said : goal.returns-clause-said
returns-clause-said g c =
    let old = g.S.Shelf.outside c.args.shelf.now in
    let new = g.S.Shelf.outside c.say.new.self in
    subst (λ written. OnOk written (DoesAll [] c.args.piece.now [] old new)) (sym c.written.ensures) (said_all c.say.result c.args.piece.now old new c.say.ensures.leaves)

pub returns-clause-stopped : goal.returns-clause-stopped
returns-clause-stopped g c =
    let old = g.S.Shelf.outside c.args.shelf.now in
    let new = g.S.Shelf.outside c.say.new.self in
    subst (λ written. IfErr written (λ stop. DoesPart [] c.args.piece.now [] old stop new)) (sym c.written.ensures)
    (said_stopped c.say.result c.args.piece.now old new c.say.ensures.leaves)
