use Rattle.std.proofs.Common.{rules, ◌≡◌, List, Option, map, reverse, sym, subst}
use Rattle.zk_lower.specs.Steps as steps
use Rattle.zk_tree.specs.Value.{Value}
use Rattle.zk_typed.specs.Does.{Ran}
use Rattle.zk_value.specs.Plain.{value_of, key_of}
use Rattle.zk_machine.specs.Found.{turn_with}
use Rattle.zk_machine.specs.Running.{held_of, machine_of, Moves}
use Rattle.zk_machine.specs.State.{state_of}
use Rattle.zk_machine.proofs.running.Running.key_turn.Goals as goal

pub returns-in-Some : goal.returns-in-Some
returns-in-Some c = λ place.
    let found : steps.next_key place c.args.names.now (value_of c.args.over) (map key_of (reverse c.args.keys.items)) (state_of c.args.self.now.state) ≡ turn_with place c.args.names.now (key_of c.in-Some.turn.key) (value_of c.in-Some.turn.value) (map key_of (reverse c.next_there.new.keys.items)) (state_of c.args.self.now.state) = search rules in
    let P : Ran (Option (List (List Value))) → Type 0 = λ ran. Moves place c.turn_on.result (steps.by ran (steps.keys_turn c.args.self.now.at c.args.back (value_of c.args.over) (held_of c.args.self.now).loops (held_of c.args.self.now))) (machine_of c.turn_on.new.self) in
    subst P (sym found) (c.turn_on.ensures place)
