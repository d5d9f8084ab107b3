use Rattle.std.proofs.Common.{◌≡◌, map, take}
use Rattle.zk_typed.specs.Text.{text_of}
use Rattle.zk_value.specs.Plain.{key_of}
use Rattle.zk_machine.proofs.called.shared_texts.Given as goal

abbrev pub invariant-loop-value : goal.invariant-loop-value
invariant-loop-value l = l.texts.items ≡ map text_of (key_of (take l.value-index l.values))
