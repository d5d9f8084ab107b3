use Rattle.std.proofs.Common.{subst}
use Rattle.std.proofs.lemmas.Result.{on_ok_weaker, IfErr-weaker}
use Rattle.zk_top.specs.Sink.{HasTaken}
use Rattle.zk_top.proofs.sink.Sink.give.Goals as goal

pub returns-in-Written-clause-taken : goal.returns-in-Written-clause-taken
returns-in-Written-clause-taken g c =
    let old = g.S.Shelf.outside c.args.shelf.now in
    on_ok_weaker c.give.result (λ gives first output taken.
    let (target, given) = subst (λ one. HasTaken first output one old) c.in-Written.is taken in
    (target, gives first.outside output given)) c.give.ensures.given

pub returns-in-Written-clause-stopped : goal.returns-in-Written-clause-stopped
returns-in-Written-clause-stopped g c =
    let old = g.S.Shelf.outside c.args.shelf.now in
    IfErr-weaker c.give.result _ _ (λ stop stopped first output taken.
    let (target, given) = subst (λ one. HasTaken first output one old) c.in-Written.is taken in
    stopped first.outside output given) c.give.ensures.stopped
