use Rattle.std.proofs.Common.{◌≡◌, ◌^◌, ◌*◌, ◌%◌, ◌≤◌, ◌+◌, length, sum}
use Rattle.zk_base.specs.Checksum.{words}
use Rattle.zk_l4.proofs.pseudo_header.wide_sum.Given as goal

-- what was added counts as its words of 16 bits, and has carried at most once a wide word
abbrev pub invariant-loop-rest : goal.invariant-loop-rest
invariant-loop-rest l =
    ((256 * (l.total.low + 2 ^ 128 * l.total.carries) + sum (words l.rest)) % 65535 ≡ sum (words l.bytes) % 65535)
    × (l.total.low + 2 ^ 128 * length l.rest ≤ 2 ^ 128 * length l.bytes)
    × (16 * l.total.carries + length l.rest ≤ length l.bytes)

abbrev pub decreases-loop-rest : goal.decreases-loop-rest
decreases-loop-rest l = length l.rest
