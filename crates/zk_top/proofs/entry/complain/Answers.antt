use Rattle.std.proofs.Common.{[], ◌≡◌, List, ℕ, OnOk, IfErr, ◌∙◌, sym, subst, refl}
use Rattle.std.proofs.lemmas.Result.{err_from_is_err_and}
use Rattle.zk_base.specs.Shelf.{Puts, after_complaint}
use Rattle.zk_command.specs.Complaint.{complaint_of}
use Rattle.zk_outcome.specs.Parts.{DoesAll, DoesPart}
use Rattle.zk_outcome.proofs.Doing.{complained_all, complained_stopped, out_of_memory}
use Rattle.zk_top.proofs.entry.complain.Goals as goal

pub returns-in_err-complaint-clause-stopped : goal.returns-in_err-complaint-clause-stopped
returns-in_err-complaint-clause-stopped g c =
    let outside = g.S.Shelf.outside c.args.shelf.now in
    let p = err_from_is_err_and c.from_residual.result c.from_residual.ensures.1 in
    rw (p.1, p.2) (out_of_memory [] [] (complaint_of c.args.ending.now) outside outside refl)

pub returns-clause-done : goal.returns-clause-done
returns-clause-done g c =
    let old = g.S.Shelf.outside c.args.shelf.now in
    let new = g.S.Shelf.outside c.complain.new.self in
    let is : c.deref.result.now ≡ complaint_of c.args.ending.now = c.deref.ensures.value ∙ c.in_ok-complaint.ensures in
    subst (λ written. OnOk written (DoesAll [] [] (complaint_of c.args.ending.now) old new)) (sym c.written.ensures)
    (complained_all c.complain.result (complaint_of c.args.ending.now) old new
    (subst (λ (text : List ℕ). Puts (after_complaint old) old text c.complain.result new) is c.complain.ensures.leaves))

pub returns-clause-stopped : goal.returns-clause-stopped
returns-clause-stopped g c =
    let old = g.S.Shelf.outside c.args.shelf.now in
    let new = g.S.Shelf.outside c.complain.new.self in
    let is : c.deref.result.now ≡ complaint_of c.args.ending.now = c.deref.ensures.value ∙ c.in_ok-complaint.ensures in
    subst (λ written. IfErr written (λ stop. DoesPart [] [] (complaint_of c.args.ending.now) old stop new)) (sym c.written.ensures)
    (complained_stopped c.complain.result (complaint_of c.args.ending.now) old new
    (subst (λ (text : List ℕ). Puts (after_complaint old) old text c.complain.result new) is c.complain.ensures.leaves))
