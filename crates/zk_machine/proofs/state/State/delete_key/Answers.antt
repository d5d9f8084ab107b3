use Rattle.std.proofs.Common.{List, sym, ap, ◌∙◌}
use Rattle.zk_tree.specs.Store.{Store}
use Rattle.zk_tree.specs.Table.{remove}
use Rattle.zk_typed.specs.Does as does
use Rattle.zk_typed.specs.Objects as meant
use Rattle.zk_value.specs.Plain.{value_of, key_of}
use Rattle.zk_value.specs.declared.value.Value.{Value}
use Rattle.zk_table.specs.Heap.{changed, in_table}
use Rattle.zk_machine.specs.State.{state_of}
use Rattle.zk_machine.specs.State.{storing}
use Rattle.zk_machine.proofs.ObjectLemmas.{change_table-there}
use Rattle.zk_machine.proofs.state.State.delete_key.Goals as goal

pub returns-in_ok-key-in-Table : goal.returns-in_ok-key-in-Table
returns-in_ok-key-in-Table c = λ place.
    let state = state_of c.args.self.now in
    ap (λ (v : Value). meant.delete_key place (value_of v) (key_of c.args.key.now) state) c.in-Object.is
    ∙ (change_table-there (λ moment. remove (key_of c.args.key.now)) place c.in-Object.object state _ (rw c.in-Table.is at c.in-Some.ensures)
    ∙ ap (λ (store : Store). does.Gives tt (storing store state))
    (ap (λ (key : List Value). changed (in_table (remove (key_of key))) c.in-Object.object.0 state.world.store) (sym c.in_ok-key-in-Table.ensures) ∙ sym c.remove.ensures.objects))
