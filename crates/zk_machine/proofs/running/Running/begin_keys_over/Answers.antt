use Rattle.std.proofs.Common.{◌+◌, List, ◌∷◌, subst}
use Rattle.zk_lower.specs.Frames.{Keys, with_loops}
use Rattle.zk_lower.specs.Steps.{Step, goes}
use Rattle.zk_tree.specs.Value.{Value}
use Rattle.zk_typed.specs.Objects.{keys_of, table}
use Rattle.zk_value.specs.Plain.{value_of}
use Rattle.zk_machine.specs.Running.{held_of, machine_of, Moves}
use Rattle.zk_machine.specs.State.{state_of}
use Rattle.zk_machine.proofs.Steps.{by_then}
use Rattle.zk_machine.proofs.running.Running.begin_keys_over.Goals as goal

pub returns : goal.returns
returns c = λ place.
    let P : Step → Type 0 = λ step. Moves place c.with_keys.result step (machine_of c.with_keys.new.self) in
    subst P (by_then (table place (value_of c.args.over) (state_of c.args.self.now.state)) keys_of (λ (keys : List (List Value)). goes (c.args.self.now.at + 1) (with_loops (Keys (value_of c.args.over) keys ∷ (held_of c.args.self.now).loops) (held_of c.args.self.now)))) (c.with_keys.ensures place)
