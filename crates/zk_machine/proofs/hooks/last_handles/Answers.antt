use Rattle.std.proofs.Common.{rules, ◌≡◌, ◌-◌, length, map, drop, ap, ◌∙◌}
use Rattle.std.proofs.lemmas.List.{take_rest}
use Rattle.zk_value.specs.Plain.{value_of, key_of}
use Rattle.zk_machine.proofs.Stack.{operands_are}
use Rattle.zk_machine.proofs.hooks.last_handles.Goals as goal

pub returns : goal.returns
returns c =
    let e : c.saturating_sub-from.result ≡ length c.args.stack.now - c.args.count = search rules in
    ap key_of c.in_ok-list.ensures ∙ (ap (map value_of) (take_rest c.args.stack.now c.saturating_sub-from.result) ∙ (ap (λ k. map value_of (drop k c.args.stack.now)) e ∙ operands_are value_of c.args.stack.now c.args.count))
