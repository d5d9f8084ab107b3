use Rattle.std.proofs.Common.{ℕ, ◌+◌, sym, ap, ◌∙◌}
use Rattle.zk_lower.specs.Steps.{by, unless}
use Rattle.zk_tree.specs.Value as plain
use Rattle.zk_tree.specs.Value.{Value}
use Rattle.zk_typed.specs.State.{State}
use Rattle.zk_machine.specs.Running.{held_of}
use Rattle.zk_machine.specs.State.{state_of}
use Rattle.zk_machine.proofs.running.Running.go_on_unless_there.Goals as goal

pub returns : goal.returns
returns c = λ place of.
    let held = held_of c.args.self.now in
    ap (λ ran. by ran (λ (truth : Value) (state : State). unless of c.args.over (c.args.self.now.at + 3) state truth held)) (c.in_ok-there.ensures place)
    ∙ (ap (λ (at : ℕ). unless of c.args.over at (state_of c.has_count.new.self) (plain.Bool c.in_ok-there.there) held) (sym c.in_ok-self.ensures.place)
    ∙ c.in_ok-unless_true.ensures of)
