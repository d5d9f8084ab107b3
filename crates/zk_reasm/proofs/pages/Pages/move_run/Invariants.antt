use Rattle.std.proofs.Common.{◌≡◌, ℕ, ◌+◌, ◌-◌, ◌<◌, ◌≤◌, ◌++◌, None, IsSome}
use Rattle.zk_reasm.specs.Pages.{byte_paged}
use Rattle.zk_reasm.specs.Between.{bytes_between}
use Rattle.zk_base.specs.ByteQueue.{bytes_of, room_of}
use Rattle.zk_reasm.proofs.pages.Pages.move_run.Given as goal

-- the bytes of each place passed are moved
abbrev pub invariant-loop-place : goal.invariant-loop-place
invariant-loop-place l = record {
  least : l.from ≤ l.place;
  order : l.place ≤ l.next;
  within : l.next ≤ l.to;
  run : bytes_of l.run ≡ bytes_of l.fn.run ++ bytes_between (byte_paged l.fn.self) l.from l.next;
  room : room_of l.fn.run ≤ room_of l.run + (l.next - l.from);
  had : (at : ℕ) → l.from ≤ at → at < l.next → IsSome (byte_paged l.fn.self at);
  behind : (at : ℕ) → l.next ≤ at → byte_paged l.self at ≡ byte_paged l.fn.self at;
  stop : l.next ≡ l.place → l.place < l.to → byte_paged l.fn.self l.place ≡ None;
}

abbrev pub decreases-loop-place : goal.decreases-loop-place
decreases-loop-place l = l.to - l.place
