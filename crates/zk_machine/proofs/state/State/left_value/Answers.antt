use Rattle.std.proofs.Common.{List, ap, ◌∙◌}
use Rattle.zk_typed.specs.declared.script.action.Left.TheVariants.{Item}
use Rattle.zk_typed.specs.Primitives.{left_value}
use Rattle.zk_value.specs.Plain.{value_of, key_of}
use Rattle.zk_value.specs.declared.value.Value.{Value}
use Rattle.zk_machine.specs.State.{state_of}
use Rattle.zk_machine.proofs.ListLemmas.{two_are}
use Rattle.zk_machine.proofs.ThenLemmas.{comes_as}
use Rattle.zk_machine.proofs.state.State.left_value.Goals as goal

pub returns-in-Item-len2 : goal.returns-in-Item-len2
returns-in-Item-len2 c = λ place.
    let state = state_of c.args.self.now in
    let operands = c.args.operands.now in
    let one = c.in-Item-len2 in
    comes_as value_of place c.item.result _ _ _
    (ap (λ side. left_value place side (key_of operands) state) one.is-0
    ∙ ap (λ (os : List Value). left_value place Item (key_of os) state) (two_are operands c.vector-item.result c.index-item.result one.len_at_least one.len_below c.vector-item.is c.index-item.is))
    (c.item.ensures place)
