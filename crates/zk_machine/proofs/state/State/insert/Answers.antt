use Rattle.std.proofs.Common.{sym, ap, ◌∙◌}
use Rattle.zk_tree.specs.Store.{Store}
use Rattle.zk_tree.specs.Table.{insert}
use Rattle.zk_typed.specs.Does as does
use Rattle.zk_value.specs.Plain.{value_of, key_of}
use Rattle.zk_machine.specs.State.{state_of, storing}
use Rattle.zk_machine.proofs.ObjectLemmas.{change_table-there}
use Rattle.zk_machine.proofs.state.State.insert.Goals as goal

pub returns-in_ok-insert-in-Table : goal.returns-in_ok-insert-in-Table
returns-in_ok-insert-in-Table c = λ place.
    let state = state_of c.args.self.now in
    change_table-there (λ moment. insert moment (key_of c.args.key) (value_of c.args.element)) place c.args.number state _ (rw c.in-Table.is at c.in-Some.ensures)
    ∙ ap (λ (store : Store). does.Gives tt (storing store state)) (sym c.in_ok-insert-in-Table.ensures.ok)
