use Rattle.std.proofs.Common.{◌≡◌, ◌*◌, ◌≤◌, ◌+◌, length, sum}
use Rattle.zk_base.specs.Checksum.{words}
use Rattle.zk_base.proofs.checksum.word_sum.Given as goal

abbrev pub invariant-loop-rest : goal.invariant-loop-rest
invariant-loop-rest l = (l.total + sum (words l.rest) ≡ sum (words l.bytes)) × (l.total + 65535 * length l.rest ≤ 65535 * length l.bytes)

abbrev pub decreases-loop-rest : goal.decreases-loop-rest
decreases-loop-rest l = length l.rest
