use Rattle.std.proofs.Common.{◌≡◌, ℕ, ◌+◌, ◌-◌, ◌<◌, ◌≤◌, ◌++◌, IsSome}
use Rattle.std.specs.VecDeque.{deque_len}
use Rattle.zk_reasm.specs.Between.{bytes_between}
use Rattle.zk_reasm.specs.Stretch.{byte_in_stretch}
use Rattle.zk_base.specs.ByteQueue.{bytes_of, room_of}
use Rattle.zk_reasm.proofs.stretch.Stretch.move_run.Given as goal

-- the bytes of each place passed are moved
abbrev pub invariant-loop-self : goal.invariant-loop-self
invariant-loop-self l = record {
  order : l.from ≤ l.self.at;
  within : l.self.at ≤ l.to;
  end : l.self.at + deque_len l.self.bytes ≡ l.initial.self.at + deque_len l.initial.self.bytes;
  run : bytes_of l.run ≡ bytes_of l.initial.run ++ bytes_between (byte_in_stretch l.fn.self) l.from l.self.at;
  room : room_of l.initial.run ≤ room_of l.run + (l.self.at - l.from);
  had : (at : ℕ) → l.from ≤ at → at < l.self.at → IsSome (byte_in_stretch l.fn.self at);
  behind : (at : ℕ) → l.self.at ≤ at → byte_in_stretch l.self at ≡ byte_in_stretch l.fn.self at;
}

abbrev pub decreases-loop-self : goal.decreases-loop-self
decreases-loop-self l = l.to - l.self.at
