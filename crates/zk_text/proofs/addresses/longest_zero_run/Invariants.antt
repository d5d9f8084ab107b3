use Rattle.std.proofs.Common.{◌≡◌, ◌+◌, ◌≤◌, length, drop}
use Rattle.std.specs.Net.Text.{zero_run, longest_zero_run}
use Rattle.zk_text.proofs.addresses.longest_zero_run.Given as goal

-- the run that begins at the group, and the longest one from there on
abbrev pub invariant-loop-i : goal.invariant-loop-i
invariant-loop-i l = record {
  run : l.run ≡ zero_run (drop l.i l.groups);
  longest : l.len ≡ (longest_zero_run (drop l.i l.groups)).1;
  from : l.start ≡ l.i + (longest_zero_run (drop l.i l.groups)).0;
  within : l.i + l.run ≤ length l.groups;
  inside : l.start + l.len ≤ length l.groups;
}
