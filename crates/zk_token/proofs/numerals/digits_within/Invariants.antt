use Rattle.std.proofs.Common.{◌≡◌, ◌+◌, ◌≤◌, take, drop}
use Rattle.std.specs.Str.Parse.{digits_value}
use Rattle.zk_token.specs.Numerals.{digits_within}
use Rattle.zk_token.proofs.numerals.digits_within.Given as goal

abbrev pub invariant-loop-index : goal.invariant-loop-index
invariant-loop-index l = record {
  value : l.value ≡ digits_value 10 (take l.index l.text);
  count : digits_within l.most 0 l.text ≡ l.index + digits_within l.most l.value (drop l.index l.text);
  small : l.value ≤ l.most;
}
