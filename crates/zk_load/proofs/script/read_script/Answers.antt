use Rattle.std.proofs.Common.{◌≡◌, [], ◌∷◌, Some, None, IfSome, IsSome, IsNone, refl, ap, subst, ◌∙◌, rules}
use Rattle.std.proofs.lemmas.Result.{err_from_is_err_and}
use Rattle.zk_base.specs.Shelf.{HasRisen}
use Rattle.zk_outcome.specs.Input.{IsReadOf}
use Rattle.zk_load.specs.Script.{script_max, script_of, accepted}
use Rattle.zk_outcome.proofs.Doing.{out_of_memory}
use Rattle.zk_load.proofs.Finding.{found_no_script, found_script}
use Rattle.zk_load.proofs.script.read_script.Goals as goal

pub returns-in_err-name-clause-stopped : goal.returns-in_err-name-clause-stopped
returns-in_err-name-clause-stopped g c =
    let old = g.S.Shelf.outside c.args.shelf.now in
    let p = err_from_is_err_and c.from_residual.result c.from_residual.ensures.1 in
    rw (p.1, p.2) (out_of_memory (c.args.file.now ∷ []) [] [] old old refl)

pub returns-in-None-clause-found : goal.returns-in-None-clause-found
returns-in-None-clause-found g c =
    let old = g.S.Shelf.outside c.args.shelf.now in
    let new = g.S.Shelf.outside c.read_input.new.shelf in
    let file = c.args.file.now in
    let lacks : IfSome old.inputs (λ files. IsReadOf script_max (files file) None) =
    subst (λ found. IfSome old.inputs (λ files. IsReadOf script_max (files file) found)) c.in-None.is c.in_ok-text.ensures.bytes in
    let none : IsNone c.in_ok-text.field-0 = rw c.in-None.is (search rules) in
    let risen : HasRisen old.absences new.absences = c.in_ok-text.ensures.absent none in
    rw c.in_ok-name.ensures (found_no_script file old new c.in_ok-text.ensures.read lacks risen)

pub returns-in_ok-read_text-in-Some-clause-found : goal.returns-in_ok-read_text-in-Some-clause-found
returns-in_ok-read_text-in-Some-clause-found g c =
    let old = g.S.Shelf.outside c.args.shelf.now in
    let new = g.S.Shelf.outside c.read_input.new.shelf in
    let file = c.args.file.now in
    let text = c.in-Some.text in
    let some : IsSome c.in_ok-text.field-0 = rw c.in-Some.is (search rules) in
    let holds : IfSome old.inputs (λ files. IsReadOf script_max (files file) (Some text)) =
    subst (λ found. IfSome old.inputs (λ files. IsReadOf script_max (files file) found)) c.in-Some.is c.in_ok-text.ensures.bytes in
    let is : c.in_ok-read_text-in-Some.field-0 ≡ accepted file (script_of text) =
    c.in_ok-read_text-in-Some.ensures
    ∙ (ap (λ name. accepted name (script_of c.as_slice.result.now)) c.in_ok-name.ensures
    ∙ ap (λ t. accepted file (script_of t)) c.as_slice.ensures) in
    rw is (found_script file text old new c.in_ok-text.ensures.read (c.in_ok-text.ensures.present some) holds)
