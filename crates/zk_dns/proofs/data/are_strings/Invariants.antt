use Rattle.std.proofs.Common.{◌≡◌, length, is_some}
use Rattle.zk_dns.specs.Data.{strings_of}
use Rattle.zk_dns.proofs.data.are_strings.Given as goal

-- the bytes are strings, if what is left of them is
abbrev pub invariant-loop-len : goal.invariant-loop-len
invariant-loop-len l =
    is_some (strings_of (length l.fn.bytes) l.fn.bytes) ≡ is_some (strings_of (length l.rest) l.rest)

abbrev pub decreases-loop-len : goal.decreases-loop-len
decreases-loop-len l = length l.rest
