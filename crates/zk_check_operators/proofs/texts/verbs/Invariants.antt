use Rattle.std.proofs.Common.{◌≡◌, drop}
use Rattle.zk_typed.specs.Making as spec
use Rattle.zk_check_operators.specs.Verbs.{after, verbs_in}
use Rattle.zk_check_operators.proofs.texts.verbs.Given as goal

abbrev pub invariant-loop-byte : goal.invariant-loop-byte
invariant-loop-byte l = after l.found.items (verbs_in l.behind (drop l.byte-index l.text)) ≡ spec.verbs l.text
