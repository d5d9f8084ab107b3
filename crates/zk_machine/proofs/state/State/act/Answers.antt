use Rattle.std.proofs.Common.{List, ap, ◌∙◌}
use Rattle.zk_typed.specs.declared.script.action.Action.TheVariants.{Assign}
use Rattle.zk_typed.specs.Primitives.{act}
use Rattle.zk_value.specs.Plain.{key_of}
use Rattle.zk_value.specs.declared.value.Value.{Value}
use Rattle.zk_machine.specs.State.{state_of}
use Rattle.zk_machine.proofs.ListLemmas.{first_is}
use Rattle.zk_machine.proofs.ThenLemmas.{comes_as}
use Rattle.zk_machine.proofs.state.State.act.Goals as goal

pub returns-in-len1-up : goal.returns-in-len1-up
returns-in-len1-up c = λ place.
    let state = state_of c.args.self.now in
    comes_as (λ u. tt {0}) place c.assign_value.result _ _ _ (ap (λ a. act place a (key_of c.args.operands.now) state) c.in-Assign.is
    ∙ ap (λ (vs : List Value). act place (Assign c.in-Assign.side) (key_of vs) state) (first_is c.args.operands.now c.value-item.result c.in-len1-up.len_at_least c.value-item.is)) (c.assign_value.ensures place)
