use Rattle.std.proofs.Common.{◌≡◌, ◌+◌, ◌≤◌, ◌++◌, drop, length}
use Rattle.std.specs.VecDeque.{deque_len, deque_capacity}
use Rattle.zk_reasm.proofs.stretch.Stretch.add_before.Given as goal

-- the last bytes stand before the others, and there is room for the rest
abbrev pub invariant-loop-k : goal.invariant-loop-k
invariant-loop-k l = record {
  bytes : l.self.bytes.items ≡ drop l.k l.bytes ++ l.initial.self.bytes.items;
  len : deque_len l.self.bytes + l.k ≡ deque_len l.initial.self.bytes + length l.bytes;
  room : deque_len l.initial.self.bytes + length l.bytes ≤ deque_capacity l.self.bytes;
  at : l.self.at ≡ l.initial.self.at;
}
