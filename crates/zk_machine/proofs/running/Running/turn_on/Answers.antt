use Rattle.std.proofs.Common.{rules, arith, Some, map, reverse, ap, ◌∙◌}
use Rattle.std.proofs.lemmas.Grind.{common_steps}
use Rattle.std.proofs.lemmas.List.{reverse-append}
use Rattle.zk_lower.specs.Steps as steps
use Rattle.zk_value.specs.Plain.{value_of, key_of}
use Rattle.zk_machine.specs.Running.{held_of}
use Rattle.zk_machine.proofs.Steps.{halts}
use Rattle.zk_machine.proofs.running.Running.turn_on.Goals as goal

pub returns-in-Err : goal.returns-in-Err
returns-in-Err c = λ place. halts (Unit {0}) (λ (u : Unit {0}). Some (map key_of (reverse c.args.keys.items))) place c.in-Err.halt _ _ _ (c.in-Err.ensures place (map key_of (reverse c.args.keys.items)))

pub returns-in_ok-push-in-Ok : goal.returns-in_ok-push-in-Ok
returns-in_ok-push-in-Ok c = λ place. ap (λ ran. steps.by ran (steps.keys_turn c.args.self.now.at c.args.back (value_of c.args.over) (held_of c.args.self.now).loops (held_of c.args.self.now))) (c.in-Ok.ensures place (map key_of (reverse c.args.keys.items))) ∙ first_of (grind (arith, common_steps), grind (arith, common_steps, reverse-append), search (rules, reverse-append))
