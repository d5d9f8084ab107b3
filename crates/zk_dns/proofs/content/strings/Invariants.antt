use Rattle.std.proofs.Common.{◌≡◌, ◌++◌, true, length, is_some}
use Rattle.std.specs.Option.{option_map}
use Rattle.zk_dns.specs.Data.{strings_of}
use Rattle.zk_dns.proofs.content.strings.Given as goal

-- the strings so far with those that are left are all of them
abbrev pub invariant-loop-len : goal.invariant-loop-len
invariant-loop-len l = record {
  rest : is_some (strings_of (length l.rest) l.rest) ≡ true;
  all : option_map (λ more. l.strings.items ++ more) (strings_of (length l.rest) l.rest) ≡ strings_of (length l.fn.bytes) l.fn.bytes;
}

abbrev pub decreases-loop-len : goal.decreases-loop-len
decreases-loop-len l = length l.rest
