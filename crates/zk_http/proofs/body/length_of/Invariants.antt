use Rattle.zk_http.proofs.LengthLaws.{AreDigits}
use Rattle.zk_http.proofs.body.length_of.Given as goal

abbrev pub invariant-loop-byte : goal.invariant-loop-byte
invariant-loop-byte l = AreDigits l.element l.number l.byte-index
