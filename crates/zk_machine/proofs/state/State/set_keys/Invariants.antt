use Rattle.std.proofs.Common.{◌≡◌, drop}
use Rattle.zk_typed.specs.Meaning.{set_keys}
use Rattle.zk_value.specs.Plain.{key_of}
use Rattle.zk_machine.specs.State.{state_of}
use Rattle.zk_machine.proofs.state.State.set_keys.Given as goal

abbrev pub invariant-loop-place : goal.invariant-loop-place
invariant-loop-place l = set_keys (drop l.place l.names) (key_of (drop l.place l.key)) (state_of l.self) ≡ set_keys l.names (key_of l.key) (state_of l.initial.self)
