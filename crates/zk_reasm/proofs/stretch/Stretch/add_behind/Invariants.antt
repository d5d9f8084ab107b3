use Rattle.std.proofs.Common.{◌≡◌, ◌+◌, ◌≤◌, ◌++◌, take, length}
use Rattle.std.specs.VecDeque.{deque_len, deque_capacity}
use Rattle.zk_reasm.proofs.stretch.Stretch.add_behind.Given as goal

-- the first bytes stand behind the others, and there is room for the rest
abbrev pub invariant-loop-byte : goal.invariant-loop-byte
invariant-loop-byte l = record {
  bytes : l.self.bytes.items ≡ l.initial.self.bytes.items ++ take l.byte-index l.bytes;
  len : deque_len l.self.bytes ≡ deque_len l.initial.self.bytes + l.byte-index;
  room : deque_len l.initial.self.bytes + length l.bytes ≤ deque_capacity l.self.bytes;
  at : l.self.at ≡ l.initial.self.at;
}
