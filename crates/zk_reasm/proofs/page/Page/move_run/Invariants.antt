use Rattle.std.proofs.Common.{◌≡◌, ℕ, ◌+◌, ◌-◌, ◌<◌, ◌≤◌, ◌++◌, None, IsSome}
use Rattle.zk_reasm.specs.Between.{bytes_between}
use Rattle.zk_reasm.specs.Page.{byte_on}
use Rattle.zk_base.specs.ByteQueue.{bytes_of, room_of}
use Rattle.zk_reasm.proofs.page.Page.move_run.Given as goal

-- the bytes of each place passed are moved
abbrev pub invariant-loop-at : goal.invariant-loop-at
invariant-loop-at l = record {
  order : l.from ≤ l.at;
  within : l.at ≤ l.to;
  run : bytes_of l.run ≡ bytes_of l.initial.run ++ bytes_between (byte_on l.initial.self) l.from l.at;
  moved : (at : ℕ) → l.from ≤ at → at < l.at → byte_on l.self at ≡ None;
  had : (at : ℕ) → l.from ≤ at → at < l.at → IsSome (byte_on l.initial.self at);
  before : (at : ℕ) → at < l.from → byte_on l.self at ≡ byte_on l.initial.self at;
  behind : (at : ℕ) → l.at ≤ at → byte_on l.self at ≡ byte_on l.initial.self at;
  room : room_of l.initial.run ≤ room_of l.run + (l.at - l.from);
}

abbrev pub decreases-loop-at : goal.decreases-loop-at
decreases-loop-at l = l.to - l.at
