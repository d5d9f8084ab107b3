use Rattle.std.proofs.Common.{List, map, reverse, ap, ◌∙◌}
use Rattle.zk_lower.specs.Frames.{with_stack}
use Rattle.zk_lower.specs.Steps.{with_top, unless}
use Rattle.zk_tree.specs.Value as plain
use Rattle.zk_value.specs.Plain.{value_of}
use Rattle.zk_value.specs.declared.value.Value.{Value}
use Rattle.zk_machine.specs.Running.{held_of}
use Rattle.zk_machine.specs.State.{state_of}
use Rattle.zk_machine.proofs.Stack.{last_is}
use Rattle.zk_machine.proofs.running.Running.unless.Goals as goal

pub returns-in-Some-Bool : goal.returns-in-Some-Bool
returns-in-Some-Bool c = λ place.
    let old = c.args.self.now in
    let state = state_of old.state in
    let others = c.pop.new.self.items in
    let next = unless place c.args.over old.at state in
    ap (λ (stack : List plain.Value). with_top place (with_stack stack (held_of old)) state next) (last_is value_of old.stack.items others c.in-Some-Bool.field-0 c.in-Some-Bool.ensures.items)
    ∙ (ap (λ (value : Value). next (value_of value) (with_stack (map value_of (reverse others)) (held_of old))) c.in-Some-Bool.field-0-is
    ∙ c.in_ok-unless_true-in-Some-Bool.ensures place)
