use Rattle.std.proofs.Common.{ℕ, subst}
use Rattle.zk_lower.specs.Steps.{turn}
use Rattle.zk_tree.specs.Value as plain
use Rattle.zk_machine.specs.Running.{held_of, machine_of, Moves}
use Rattle.zk_machine.specs.State.{state_of}
use Rattle.zk_machine.proofs.running.Running.turn_at_once.Goals as goal

pub returns : goal.returns
returns c = λ place.
    let P : ℕ → Type 0 = λ at. Moves place c.turn_if.result (turn place c.args.back at (state_of c.args.self.now.state) (plain.Bool c.args.truth) (held_of c.args.self.now)) (machine_of c.turn_if.new.self) in
    subst P c.in_ok-self.ensures.place (c.turn_if.ensures place)
