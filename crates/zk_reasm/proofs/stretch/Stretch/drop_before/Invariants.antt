use Rattle.std.proofs.Common.{◌≡◌, ℕ, ◌+◌, ◌-◌, ◌≤◌, max}
use Rattle.std.specs.VecDeque.{deque_len}
use Rattle.zk_reasm.specs.Stretch.{byte_in_stretch}
use Rattle.zk_reasm.proofs.stretch.Stretch.drop_before.Given as goal

-- the bytes passed are dropped, and the others stay
abbrev pub invariant-loop-self : goal.invariant-loop-self
invariant-loop-self l = record {
  order : l.initial.self.at ≤ l.self.at;
  within : l.self.at ≤ max l.initial.self.at l.from;
  end : l.self.at + deque_len l.self.bytes ≡ l.initial.self.at + deque_len l.initial.self.bytes;
  bytes : (at : ℕ) → l.self.at ≤ at → byte_in_stretch l.self at ≡ byte_in_stretch l.initial.self at;
}

abbrev pub decreases-loop-self : goal.decreases-loop-self
decreases-loop-self l = l.from - l.self.at
