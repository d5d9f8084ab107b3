use Rattle.std.proofs.Common.{subst, [], OnOk, IfErr}
use Rattle.std.proofs.lemmas.Result.{err_from_is_err_and}
use Rattle.zk_base.specs.Shelf.{Outside}
use Rattle.zk_logs.specs.Logs.{log_files}
use Rattle.zk_outcome.specs.Parts.{DoesAll, DoesPart}
use Rattle.zk_top.specs.Logged.{dated}
use Rattle.zk_top.specs.Writing.{Output, HasGiven, GivesAll, GivesPart}
use Rattle.zk_top.proofs.Giving.{close_all, close_some, end_stopped}
use Rattle.zk_top.proofs.writer.Writer.close.Goals as goal

pub returns-in_err-say-clause-stopped : goal.returns-in_err-say-clause-stopped
returns-in_err-say-clause-stopped g c =
    let old = g.S.Shelf.outside c.args.shelf.now in
    let new = g.S.Shelf.outside c.say.new.shelf in
    let stop = c.in_err-say.field-0.0 in
    let p = err_from_is_err_and c.from_residual.result c.from_residual.ensures.1 in
    rw (p.1, p.2) (λ first output given. end_stopped first output c.args.self.now (dated c.args.at) old stop new given
    (subst (λ text. DoesPart [] text [] old stop new) c.deref.ensures.value c.in_err-say.ensures.stopped))

pub returns-clause-given : goal.returns-clause-given
returns-clause-given g c =
    let old = g.S.Shelf.outside c.args.shelf.now in
    let mid = g.S.Shelf.outside c.say.new.shelf in
    let new = g.S.Shelf.outside c.close.new.shelf in
    let says : DoesAll [] c.args.self.now.piece.items [] old mid = subst (λ text. DoesAll [] text [] old mid) c.deref.ensures.value c.in_ok-say.ensures.said in
    subst (λ end. OnOk c.close.result ((first : Outside) (output : Output) → HasGiven first output c.args.self.now old → GivesAll output.text (log_files output.rows end) first new)) c.dated.ensures.nearest
    (close_all c.close.result c.dated.result c.args.self.now old mid new says c.close.ensures.closed c.close.ensures.only)

pub returns-clause-stopped : goal.returns-clause-stopped
returns-clause-stopped g c =
    let old = g.S.Shelf.outside c.args.shelf.now in
    let mid = g.S.Shelf.outside c.say.new.shelf in
    let new = g.S.Shelf.outside c.close.new.shelf in
    let says : DoesAll [] c.args.self.now.piece.items [] old mid = subst (λ text. DoesAll [] text [] old mid) c.deref.ensures.value c.in_ok-say.ensures.said in
    subst (λ end. IfErr c.close.result (λ stop. (first : Outside) (output : Output) → HasGiven first output c.args.self.now old → GivesPart output.text (log_files output.rows end) first stop new)) c.dated.ensures.nearest
    (close_some c.close.result c.dated.result c.args.self.now old mid new says c.close.ensures.begun c.close.ensures.stopped)
