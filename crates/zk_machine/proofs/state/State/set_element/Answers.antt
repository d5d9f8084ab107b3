use Rattle.std.proofs.Common.{List, sym, ap, ◌∙◌}
use Rattle.zk_tree.specs.Value as plain
use Rattle.zk_typed.specs.Objects as meant
use Rattle.zk_value.specs.Plain.{value_of, key_of}
use Rattle.zk_value.specs.declared.value.Value.{Value}
use Rattle.zk_machine.specs.State.{state_of}
use Rattle.zk_machine.proofs.ThenLemmas.{comes_as}
use Rattle.zk_machine.proofs.state.State.set_element.Goals as goal

pub returns : goal.returns
returns c = λ place.
    let state = state_of c.args.self.now in
    let element = value_of c.args.element in
    comes_as (λ u. tt {0}) place c.insert.result _ _ _
    (ap (λ (v : Value). meant.set_element place (value_of v) (key_of c.args.key.now) element state) c.in-Object.is
    ∙ ap (λ (key : List Value). meant.set_element place (plain.Object c.in-Object.object) (key_of key) element state) (sym c.in_ok-key.ensures))
    (c.insert.ensures place)
