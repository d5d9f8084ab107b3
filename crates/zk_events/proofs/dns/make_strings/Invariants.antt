use Rattle.std.proofs.Common.{◌≡◌, take, map}
use Rattle.zk_tree.specs.Value as plain
use Rattle.zk_value.specs.Plain.{key_of}
use Rattle.zk_events.proofs.dns.make_strings.Given as goal

abbrev pub invariant-loop-string : goal.invariant-loop-string
invariant-loop-string l = key_of l.strings.items ≡ map plain.String (take l.string-index l.texts)
