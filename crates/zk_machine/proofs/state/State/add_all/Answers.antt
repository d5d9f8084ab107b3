use Rattle.std.proofs.Common.{List, fold, map, sym, ap, ◌∙◌}
use Rattle.zk_tree.specs.Store as object
use Rattle.zk_typed.specs.Objects.{add_member}
use Rattle.zk_tree.specs.Value as plain
use Rattle.zk_tree.specs.Value.{Value}
use Rattle.zk_typed.specs.declared.script.primitive.Binary.TheVariants.{Plus}
use Rattle.zk_typed.specs.Does.{Gives}
use Rattle.zk_typed.specs.Primitives.{into_object}
use Rattle.zk_value.specs.Plain.{value_of, key_of}
use Rattle.zk_value.specs.declared.value.Value as rust
use Rattle.zk_table.specs.Heap.{changed, in_table}
use Rattle.zk_machine.specs.State.{state_of, storing}
use Rattle.zk_machine.proofs.SetLemmas.{plus_gives}
use Rattle.zk_machine.proofs.state.State.add_all.Goals as goal

pub returns : goal.returns
returns c = λ place members there.
    let state = state_of c.args.self.now in
    let number = c.args.number in
    ap (λ (v : rust.Value). into_object place Plus (plain.Object number) (value_of v) (object.Table members) state) c.in-Object.is
    ∙ (plus_gives place number c.in-Object.others members c.in-Table.table.now state there (rw c.in-Table.is at c.in-Some.ensures)
    ∙ (ap (λ (keys : List (List Value)). Gives (plain.Object number) (storing (changed (in_table (λ table. fold (add_member state.world.time) table keys)) number.0 state.world.store) state)) (sym (ap (map key_of) c.deref.ensures.value ∙ c.in_ok-keys-in-Table.ensures))
    ∙ ap (λ store. Gives (plain.Object number) (storing store state)) (sym c.in_ok-insert_all.ensures.objects)))
