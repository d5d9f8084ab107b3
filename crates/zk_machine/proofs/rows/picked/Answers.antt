use Rattle.std.proofs.Common.{◌++◌, ◌∷◌, [], take, sym, ap, ◌∙◌, append-nil}
use Rattle.std.specs.List.{cons_option}
use Rattle.zk_typed.specs.Logs.{picked}
use Rattle.zk_machine.proofs.ListLemmas.{picked-more}
use Rattle.zk_machine.proofs.rows.picked.Goals as goal
use Rattle.zk_machine.proofs.rows.picked.Goals.{in-Some+in_ok-push, in_default}

pub loop-place-preserved : goal.loop-place-preserved
loop-place-preserved g c =
    let all = c.args.all.now in
    let places = c.args.places.now in
    let i = c.loop-place.place-index in
    let more = picked-more all places i c.loop-place-test.true in
    elim c.match-at.branch [
      | in-Some+in_ok-push w ↦ ap (λ v. v.items) w.picked-is ∙ (w.in_ok-push.ensures.items ∙ (ap (λ l. l ++ w.in-Some.one ∷ []) c.loop-place.invariant
          ∙ (ap (λ o. picked all (take i places) ++ cons_option o []) (sym w.in-Some.is ∙ c.at.ensures) ∙ sym more)))
      | in_default w ↦ ap (λ v. v.items) w.picked-is ∙ (c.loop-place.invariant ∙ (sym (append-nil (picked all (take i places)))
          ∙ (ap (λ o. picked all (take i places) ++ cons_option o []) (sym w.in_default.is ∙ c.at.ensures) ∙ sym more)))
    ]
