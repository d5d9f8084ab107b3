use Rattle.std.proofs.Common.{◌≡◌, true, false, sym, ap, ◌∙◌}
use Rattle.zk_typed.specs.Does.{Gives}
use Rattle.zk_typed.specs.Objects.{finds_renew}
use Rattle.zk_value.specs.Plain.{key_of, field_of}
use Rattle.zk_table.specs.Heap.{changed, in_table}
use Rattle.zk_tree.specs.Table.{renew}
use Rattle.zk_machine.specs.State.{state_of, storing}
use Rattle.zk_machine.proofs.TableLemmas.{find-renews, find-stays}
use Rattle.zk_machine.proofs.state.State.find.Goals as goal

pub returns-then-not-finds_renew : goal.returns-then-not-finds_renew
returns-then-not-finds_renew c = λ place.
    let state = state_of c.args.self.now in
    let stays : finds_renew c.in_ok-table.table.now.expiry ≡ false = sym (c.finds_renew.ensures ∙ ap finds_renew c.expiry.ensures.expiry) ∙ c.if-not-finds_renew.true in
    find-stays place c.args.number (key_of c.args.key.now) state c.in_ok-table.table.now c.in_ok-table.ensures.there stays ∙ ap (λ v. Gives v state) (sym c.in_ok-value.ensures)

pub returns : goal.returns
returns c = λ place.
    let state = state_of c.args.self.now in
    let renews : finds_renew c.in_ok-table.table.now.expiry ≡ true = sym (c.finds_renew.ensures ∙ ap finds_renew c.expiry.ensures.expiry) ∙ c.if-not-finds_renew.false in
    find-renews place c.args.number (key_of c.args.key.now) state c.in_ok-table.table.now c.in_ok-table.ensures.there renews
    ∙ (ap (λ v. Gives v (storing (changed (in_table (renew state.world.time (key_of c.args.key.now))) c.args.number.0 state.world.store) state)) (sym c.in_ok-value.ensures)
    ∙ ap (λ store. Gives (field_of c.in_ok-value.value) (storing store state)) (sym c.renew.ensures.objects))
