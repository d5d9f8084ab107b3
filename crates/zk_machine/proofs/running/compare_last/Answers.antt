use Rattle.std.proofs.Common.{rules, ◌≡◌, ◌-◌, length}
use Rattle.std.proofs.lemmas.List.{take_rest}
use Rattle.zk_value.specs.Plain.{value_of}
use Rattle.zk_machine.proofs.Stack.{operands_are}
use Rattle.zk_machine.proofs.running.compare_last.Goals as goal

pub returns : goal.returns
returns c = λ place state.
    let e : c.saturating_sub-from.result ≡ length c.args.stack.now - c.args.count = search rules in
    rw (← operands_are value_of c.args.stack.now c.args.count, ← e, ← take_rest c.args.stack.now c.saturating_sub-from.result) (c.compared.ensures place state)
