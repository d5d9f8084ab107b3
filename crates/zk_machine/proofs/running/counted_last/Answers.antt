use Rattle.std.proofs.Common.{rules, ◌≡◌, ◌-◌, length}
use Rattle.std.proofs.lemmas.List.{take_rest}
use Rattle.zk_value.specs.Plain.{value_of}
use Rattle.zk_machine.proofs.Stack.{operands_are}
use Rattle.zk_machine.proofs.running.counted_last.Goals as goal

pub returns : goal.returns
returns c =
    let e : c.saturating_sub-from.result ≡ length c.args.stack.now - c.args.count = search rules in
    rw (← operands_are value_of c.args.stack.now c.args.count, ← e, ← take_rest c.args.stack.now c.saturating_sub-from.result) c.counted_of.ensures
