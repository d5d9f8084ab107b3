use Rattle.std.proofs.Common.{◌≡◌, map, reverse, vec_len}
use Rattle.zk_lower.specs.Steps.{next_key}
use Rattle.zk_tree.specs.declared.place.Place.{Place}
use Rattle.zk_typed.specs.declared.script.stmt.Names.{Names}
use Rattle.zk_value.specs.Plain.{value_of, key_of}
use Rattle.zk_machine.specs.State.{state_of}
use Rattle.zk_machine.proofs.loops.next_there.Given as goal

abbrev pub invariant-loop-key : goal.invariant-loop-key
invariant-loop-key l = (place : Place) (names : Names) → next_key place names (value_of l.over) (map key_of (reverse l.keys.items)) (state_of l.state) ≡ next_key place names (value_of l.over) (map key_of (reverse l.initial.keys.items)) (state_of l.state)

abbrev pub decreases-loop-key : goal.decreases-loop-key
decreases-loop-key l = vec_len l.keys
