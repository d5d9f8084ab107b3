use Rattle.std.proofs.Common.{◌≡◌, false, drop}
use Rattle.zk_token.specs.Strings.{closes_after}
use Rattle.zk_token.proofs.strings.closes.Given as goal

abbrev pub invariant-loop-byte : goal.invariant-loop-byte
invariant-loop-byte l = closes_after false l.text ≡ closes_after l.escaped (drop l.byte-index l.text)
