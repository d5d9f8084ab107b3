use Rattle.std.proofs.Common.{List, ap, ◌∙◌}
use Rattle.zk_typed.specs.Primitives.{perform}
use Rattle.zk_typed.specs.declared.script.primitive.Primitive.TheVariants as primitive
use Rattle.zk_value.specs.Plain.{key_of}
use Rattle.zk_value.specs.declared.value.Value.{Value}
use Rattle.zk_machine.proofs.ListLemmas.{two_are}
use Rattle.zk_machine.proofs.running.counted_of.Goals as goal

pub returns-in-Some : goal.returns-in-Some
returns-in-Some c = λ place state.
    ap (λ (os : List Value). perform place (primitive.Binary c.args.operator) (key_of os) state) (two_are c.args.operands.now c.a-item.result c.b-item.result c.in-len2.len_at_least c.in-len2.len_below c.a-item.is c.b-item.is)
    ∙ c.in-Some.ensures.computes place state
