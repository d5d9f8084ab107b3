use Rattle.std.proofs.Common.{◌≡◌, ◌≤◌, length, drop}
use Rattle.zk_typed.specs.Errors.{by_place}
use Rattle.zk_check.specs.Faults.{head_of}
use Rattle.zk_check.proofs.rules.least.first_told.Given as goal

abbrev pub invariant-loop-at : goal.invariant-loop-at
invariant-loop-at l = record {
  within : l.at ≤ length l.rules;
  first : l.first ≡ head_of (by_place (drop l.at l.rules));
}

abbrev pub decreases-loop-at : goal.decreases-loop-at
decreases-loop-at l = l.at
