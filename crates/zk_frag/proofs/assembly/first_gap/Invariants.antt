use Rattle.std.proofs.Common.{◌≡◌, ℕ, ◌-◌, ◌<◌, ◌≤◌, true, false, length, get_or}
use Rattle.zk_frag.proofs.assembly.first_gap.Given as goal

-- all places from the first on are covered so far
abbrev pub invariant-loop-place : goal.invariant-loop-place
invariant-loop-place l = record {
  least : l.from ≤ l.place;
  before : (i : ℕ) → l.from ≤ i → i < l.place → get_or l.covered i false ≡ true;
}

abbrev pub decreases-loop-place : goal.decreases-loop-place
decreases-loop-place l = length l.covered - l.place
