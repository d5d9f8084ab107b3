use Rattle.std.proofs.Common.{◌≡◌, ◌≤◌, length}
use Rattle.zk_typed.specs.Declarations as spec
use Rattle.zk_check_operators.specs.Attributes.{before}
use Rattle.zk_check_operators.proofs.placed.is_before.Given as goal

abbrev pub invariant-loop-at : goal.invariant-loop-at
invariant-loop-at l = (l.at ≤ length l.attrs) × (spec.is_one_of (before l.at l.attrs) l.name ≡ spec.is_one_of (before l.end l.attrs) l.name)

abbrev pub decreases-loop-at : goal.decreases-loop-at
decreases-loop-at l = l.at
