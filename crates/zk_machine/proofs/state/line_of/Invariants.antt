use Rattle.std.proofs.Common.{◌≡◌, take}
use Rattle.zk_typed.specs.Text as text
use Rattle.zk_value.specs.Plain.{key_of}
use Rattle.zk_machine.proofs.state.line_of.Given as goal

abbrev pub invariant-loop-number : goal.invariant-loop-number
invariant-loop-number l = l.line.items ≡ text.line_of (key_of (take l.number l.values))
