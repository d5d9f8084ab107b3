use Rattle.std.proofs.Common.{List, ap, ◌∙◌}
use Rattle.zk_typed.specs.declared.script.primitive.Primitive.TheVariants.{Size, Item}
use Rattle.zk_typed.specs.Primitives.{perform}
use Rattle.zk_value.specs.Plain.{value_of, key_of}
use Rattle.zk_value.specs.declared.value.Value.{Value}
use Rattle.zk_machine.specs.State.{state_of}
use Rattle.zk_machine.proofs.ListLemmas.{one_is, two_are}
use Rattle.zk_machine.proofs.ThenLemmas.{comes_as}
use Rattle.zk_machine.proofs.state.State.perform.Goals as goal

pub returns-in-Unary : goal.returns-in-Unary
returns-in-Unary c = λ place. comes_as value_of place c.unary.result _ _ _ (ap (λ p. perform place p (key_of c.args.operands.now) (state_of c.args.self.now)) c.in-Unary.is) (c.unary.ensures place)

pub returns-in-Binary : goal.returns-in-Binary
returns-in-Binary c = λ place. comes_as value_of place c.binary.result _ _ _ (ap (λ p. perform place p (key_of c.args.operands.now) (state_of c.args.self.now)) c.in-Binary.is) (c.binary.ensures place)

pub returns-in-HasText : goal.returns-in-HasText
returns-in-HasText c = λ place. comes_as value_of place c.has_text.result _ _ _ (ap (λ p. perform place p (key_of c.args.operands.now) (state_of c.args.self.now)) c.in-HasText.is) (c.has_text.ensures place)

pub returns-in-HasIndex : goal.returns-in-HasIndex
returns-in-HasIndex c = λ place. comes_as value_of place c.has_index_in.result _ _ _ (ap (λ p. perform place p (key_of c.args.operands.now) (state_of c.args.self.now)) c.in-HasIndex.is) (c.has_index_in.ensures place)

pub returns-in-len1 : goal.returns-in-len1
returns-in-len1 c = λ place.
    let state = state_of c.args.self.now in
    comes_as value_of place c.size.result _ _ _ (ap (λ p. perform place p (key_of c.args.operands.now) state) c.in-Size.is
    ∙ ap (λ (vs : List Value). perform place Size (key_of vs) state) (one_is c.args.operands.now c.value-item.result c.in-len1.len_at_least c.in-len1.len_below c.value-item.is)) (c.size.ensures place)

pub returns-in-len2 : goal.returns-in-len2
returns-in-len2 c = λ place.
    let state = state_of c.args.self.now in
    comes_as value_of place c.item.result _ _ _ (ap (λ p. perform place p (key_of c.args.operands.now) state) c.in-Item.is
    ∙ ap (λ (vs : List Value). perform place Item (key_of vs) state) (two_are c.args.operands.now c.vector-item.result c.index-item.result c.in-len2.len_at_least c.in-len2.len_below c.vector-item.is c.index-item.is)) (c.item.ensures place)
