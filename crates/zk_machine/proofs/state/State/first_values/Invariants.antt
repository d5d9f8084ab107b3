use Rattle.std.proofs.Common.{◌≡◌, map, drop}
use Rattle.zk_lower.specs.Steps as steps
use Rattle.zk_tree.specs.declared.place.Place.{Place}
use Rattle.zk_typed.specs.Objects.{first_values}
use Rattle.zk_typed.specs.View.{field_of}
use Rattle.zk_value.specs.Plain as value
use Rattle.zk_value.specs.Plain.{key_of}
use Rattle.zk_machine.specs.State.{state_of}
use Rattle.zk_machine.proofs.ThenLemmas.{gathered}
use Rattle.zk_machine.proofs.state.State.first_values.Given as goal

abbrev pub invariant-loop-number : goal.invariant-loop-number
invariant-loop-number l = (place : Place) → gathered (map value.field_of l.values.items) (first_values place (steps.given l.given (key_of l.operands)) l.number (map field_of (drop l.number l.fields)) (state_of l.self))
    ≡ first_values place (steps.given l.given (key_of l.operands)) 0 (map field_of l.fields) (state_of l.initial.self)
