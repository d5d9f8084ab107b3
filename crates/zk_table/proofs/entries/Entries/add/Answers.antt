use Rattle.std.proofs.Common.{◌≡◌, ◌++◌, ◌∷◌, [], cond, Some, Result, Ok, Err, refl, ap, subst, ◌∙◌, arith, length}
use Rattle.std.specs.Prelude.{OnErr}
use Rattle.std.specs.Map.{lookup}
use Rattle.std.proofs.lemmas.List.{with_items_is}
use Rattle.indexmap.specs.IndexMap as keyed
use Rattle.zk_tree.specs.Table.{due_from}
use Rattle.zk_value.specs.contracts.key.KeyPartialEq.TheImpl as key_eq
use Rattle.zk_table.specs.declared.slot.Stored.{Stored}
use Rattle.zk_table.specs.Index.{AllBut}
use Rattle.zk_table.specs.Kept.{order_at}
use Rattle.zk_table.specs.Slots.{occupied, turn_at}
use Rattle.zk_table.proofs.ChangeLemmas.{is_some-due_from, tree_after}
use Rattle.zk_table.proofs.OperationLemmas.{adds-from, insert-added, refused, widened}
use Rattle.zk_table.proofs.entries.Entries.add.Goals as goal

on_err : {T E P : Type 0} (r : Result T E) → P → OnErr r P
on_err (Ok x) p = tt
on_err (Err e) p = p

pub returns-in_err-widen-clause-err : goal.returns-in_err-widen-clause-err
returns-in_err-widen-clause-err c = on_err c.from_residual.result (λ kept. widened c.args.self.now c.widen.new.self kept c.widen.ensures.same)

pub returns-in_err-clone-clause-err : goal.returns-in_err-clone-clause-err
returns-in_err-clone-clause-err c = on_err c.from_residual-in_err-clone.result (λ kept. widened c.args.self.now c.widen.new.self kept c.widen.ensures.same)

pub returns-in_err-insert-clause-err : goal.returns-in_err-insert-clause-err
unfolding order_at
returns-in_err-insert-clause-err c = on_err c.from_residual-in_err-insert.result (λ kept.
    refused c.args.self.now c.widen.new.self _ kept c.widen.ensures.same refl
    (λ key. ap (λ es. lookup ((key_eq.ghosts).eq key) es) c.in_err-insert.ensures.err) refl refl refl refl)

pub returns-clause-ok : goal.returns-clause-ok
unfolding order_at
returns-clause-ok c = λ kept none.
    let old = c.args.self.now in
    let mid = c.widen.new.self in
    let widens = c.widen.ensures.same in
    let stored : Stored = record { key = c.args.key; value = c.args.value; since = c.args.now; due = due_from old.expiry c.args.now } in
    let due : c.due_from-due.result ≡ due_from old.expiry c.args.now = c.due_from-due.ensures ∙ ap (λ e. due_from e c.args.now) widens.expiry in
    let long : length c.reorder.new.firsts ≡ mid.firsts.len = omega arith in
    let place : length mid.slots.items ≡ c.len-place.result = omega arith in
    let slots : c.push.new.self.items ≡ mid.slots.items ++ occupied old.insertions stored ∷ [] =
    c.in-Ok.ensures.items
    ∙ ap (λ d. mid.slots.items ++ occupied old.insertions (record { key = c.args.key; value = c.args.value; since = c.args.now; due = d }) ∷ []) due in
    insert-added old _ c.args.now c.args.key c.args.value kept none
    (adds-from old mid _ stored widens slots
    (λ key. c.in_ok-insert.ensures.updates.0 key
    ∙ ap (λ k. cond ((key_eq.ghosts).eq k key) (Some old.insertions) (keyed.get ((key_eq.ghosts).eq) mid.orders key)) c.in_ok-clone.ensures.cases)
    widens.expiry (c.in-Some-Some.ensures.1) (c.in-Some-Some.ensures'.1)
    (ap length (with_items_is mid.firsts c.reorder.new.firsts long) ∙ long ∙ mid.firsts.ok.0)
    (c.in_ok-widen.ensures.long kept) (is_some-due_from old.expiry c.args.now)
    (λ all. tree_after c.push.new.self.items c.push.new.self.items mid.firsts c.deref_mut.result.now c.reorder.new.firsts c.len-place.result
    refl c.deref_mut.ensures.value long c.reorder.ensures
    (subst (λ n. AllBut (turn_at c.push.new.self.items) mid.firsts.items n) place all)))
