use Rattle.std.proofs.Common.{sym, ap, ◌∙◌}
use Rattle.zk_tree.specs.Store as object
use Rattle.zk_tree.specs.Value as plain
use Rattle.zk_typed.specs.Does.{Gives}
use Rattle.zk_typed.specs.Primitives.{into_object}
use Rattle.zk_value.specs.Objects.{with_item_behind}
use Rattle.zk_value.specs.Plain.{value_of}
use Rattle.zk_value.specs.declared.value.Value.{Value}
use Rattle.zk_table.specs.Heap.{changed}
use Rattle.zk_table.proofs.HeapLemmas.{changed-there}
use Rattle.zk_machine.specs.State.{state_of, storing}
use Rattle.zk_machine.proofs.state.State.into_vector.Goals as goal

pub returns-in_ok-push_item-in-Plus : goal.returns-in_ok-push_item-in-Plus
returns-in_ok-push_item-in-Plus c = λ place items there.
    let state = state_of c.args.self.now in
    let store = c.args.self.now.world.heap.objects in
    let number = c.args.number in
    ap (λ by. into_object place by (plain.Object number) (value_of c.args.other.now) (object.Vector items) state) c.in-Plus.is
    ∙ ap (λ store. Gives (plain.Object number) (storing store state)) (sym (c.in_ok-push_item-in-Plus.ensures.ok
    ∙ (ap (λ (v : Value). changed (with_item_behind (value_of v)) number.0 store) c.in_ok-clone-in-Plus.ensures.cases
    ∙ changed-there (with_item_behind (value_of c.args.other.now)) number.0 store (object.Vector items) (sym there))))
