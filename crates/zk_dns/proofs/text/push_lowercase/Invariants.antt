use Rattle.std.proofs.Common.{◌≡◌, ◌++◌, map, drop}
use Rattle.std.specs.Char.{to_ascii_lowercase}
use Rattle.zk_dns.proofs.text.push_lowercase.Given as goal

-- what is there and what is left of the label make the whole
abbrev pub invariant-loop-byte : goal.invariant-loop-byte
invariant-loop-byte l =
    l.text.items ++ map to_ascii_lowercase (drop l.byte-index l.label) ≡ l.initial.text.items ++ map to_ascii_lowercase l.label
