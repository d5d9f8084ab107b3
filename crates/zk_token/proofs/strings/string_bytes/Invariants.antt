use Rattle.std.proofs.Common.{◌-◌, ◌≤◌, length}
use Rattle.zk_token.specs.Items.{found_at, StandBetween}
use Rattle.zk_token.specs.Strings.{spelled_at}
use Rattle.zk_token.proofs.strings.string_bytes.Given as goal

abbrev pub invariant-loop-byte : goal.invariant-loop-byte
invariant-loop-byte l =
    (l.place ≤ length l.text) × (length l.bytes.items ≤ l.place)
    × StandBetween (found_at spelled_at l.text) 0 l.bytes.items l.place

abbrev pub decreases-loop-byte : goal.decreases-loop-byte
decreases-loop-byte l = length l.text - l.place
