use Rattle.std.proofs.Common.{◌≡◌, ◌^◌, ◌<◌, true, take}
use Rattle.std.specs.List.{list_all}
use Rattle.zk_typed.specs.BuiltIns.{is_digit, number_after}
use Rattle.zk_builtin.proofs.numbers.number_of.Given as goal

abbrev pub invariant-loop-byte : goal.invariant-loop-byte
invariant-loop-byte l =
    (l.number ≡ number_after 0 (take l.byte-index l.s)) × (list_all is_digit (take l.byte-index l.s) ≡ true) × (l.number < 2 ^ 64)
