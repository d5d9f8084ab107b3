use Rattle.std.proofs.Common.{◌≡◌, ◌+◌, ◌++◌, length, take, drop, flat_map}
use Rattle.zk_text.specs.Escape.{byte_text, escaped}
use Rattle.zk_text.proofs.escapes.escape_into.Given as goal

-- the text up to here is written, and that of the bytes from here on is left
abbrev pub invariant-loop-byte : goal.invariant-loop-byte
invariant-loop-byte l = record {
  written : take l.len l.out ++ flat_map (byte_text l.in_set) (drop l.byte-index l.rest) ≡ escaped l.in_set l.text;
  left : l.len + length (flat_map (byte_text l.in_set) (drop l.byte-index l.rest)) ≡ length (escaped l.in_set l.text);
  others : drop l.len l.out ≡ drop l.len l.fn.out;
}
