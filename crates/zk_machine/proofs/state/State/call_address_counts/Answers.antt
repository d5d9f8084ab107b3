use Rattle.std.proofs.Common.{List, ◌∷◌, [], sym, ap, ◌∙◌}
use Rattle.zk_base.specs.declared.network.Addr.{Addr}
use Rattle.zk_tree.specs.Value as plain
use Rattle.zk_typed.specs.Primitives.{called}
use Rattle.zk_typed.specs.declared.script.primitive.BuiltIn.TheVariants.{AddrToCounts}
use Rattle.zk_value.specs.Plain.{value_of, key_of}
use Rattle.zk_value.specs.declared.value.Value.{Value}
use Rattle.zk_machine.specs.State.{state_of}
use Rattle.zk_machine.proofs.ListLemmas.{one_is}
use Rattle.zk_machine.proofs.ThenLemmas.{comes_as}
use Rattle.zk_machine.proofs.state.State.call_address_counts.Goals as goal

pub returns-in-Addr : goal.returns-in-Addr
returns-in-Addr c = λ place.
    let state = state_of c.args.self.now in
    comes_as value_of place c.address_counts.result _ _ _
    (ap (λ (vs : List Value). called place AddrToCounts (key_of vs) state) (one_is c.args.values.now c.value-item.result c.in-len1.len_at_least c.in-len1.len_below c.value-item.is)
    ∙ (ap (λ (v : Value). called place AddrToCounts (value_of v ∷ []) state) c.in-Addr.is
    ∙ ap (λ (address : Addr). called place AddrToCounts (plain.Addr address ∷ []) state) (sym c.get.ensures)))
    (c.address_counts.ensures place)
