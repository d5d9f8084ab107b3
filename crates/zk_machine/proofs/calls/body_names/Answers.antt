use Rattle.std.proofs.Common.{rules, ◌≡◌, ◌-◌, length, map, reverse, take, drop, Some, ap, ◌∙◌}
use Rattle.std.proofs.lemmas.List.{take_rest}
use Rattle.zk_value.specs.Plain.{value_of}
use Rattle.zk_machine.proofs.Stack.{names_are, operands_are}
use Rattle.zk_machine.proofs.calls.body_names.Goals as goal

pub returns : goal.returns
returns c =
    let e : c.saturating_sub-from.result ≡ length c.args.stack.now - c.args.count = search rules in
    let args : map value_of (take (length c.args.stack.now - c.saturating_sub-from.result) (drop c.saturating_sub-from.result c.args.stack.now)) ≡ reverse (take c.args.count (map value_of (reverse c.args.stack.now))) =
    ap (map value_of) (take_rest c.args.stack.now c.saturating_sub-from.result) ∙ (ap (λ k. map value_of (drop k c.args.stack.now)) e ∙ operands_are value_of c.args.stack.now c.args.count) in
    names_are c.in_ok-names.names.items c.add_locals.new.names.items (reverse (take c.args.count (map value_of (reverse c.args.stack.now)))) c.args.locals (c.in_ok-names.ensures ∙ ap (map Some) args) c.in_ok-add_locals.ensures
