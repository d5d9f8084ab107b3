use Rattle.std.proofs.Common.{ℕ, ◌+◌, ◌∷◌, length, subst}
use Rattle.zk_lower.specs.Frames.{Indexes, with_loops}
use Rattle.zk_lower.specs.Steps.{Step, goes}
use Rattle.zk_typed.specs.Objects.{vector}
use Rattle.zk_value.specs.Plain.{value_of}
use Rattle.zk_machine.specs.Running.{held_of, machine_of, Moves}
use Rattle.zk_machine.specs.State.{state_of}
use Rattle.zk_machine.proofs.Steps.{by_then}
use Rattle.zk_machine.proofs.running.Running.begin_indexes_over.Goals as goal

pub returns : goal.returns
returns c = λ place.
    let P : Step → Type 0 = λ step. Moves place c.with_indexes.result step (machine_of c.with_indexes.new.self) in
    subst P (by_then (vector place (value_of c.args.over) (state_of c.args.self.now.state)) length (λ (left : ℕ). goes (c.args.self.now.at + 1) (with_loops (Indexes (value_of c.args.over) 0 left ∷ (held_of c.args.self.now).loops) (held_of c.args.self.now)))) (c.with_indexes.ensures place)
