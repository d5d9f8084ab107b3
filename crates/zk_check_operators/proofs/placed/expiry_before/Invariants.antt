use Rattle.std.proofs.Common.{◌≡◌, ◌≤◌, length}
use Rattle.std.specs.List.{list_any}
use Rattle.zk_typed.specs.Declarations as spec
use Rattle.zk_check_operators.specs.Attributes.{before}
use Rattle.zk_check_operators.proofs.placed.expiry_before.Given as goal

abbrev pub invariant-loop-at : goal.invariant-loop-at
invariant-loop-at l = (l.at ≤ length l.attrs) × (list_any spec.is_expiry (before l.at l.attrs) ≡ list_any spec.is_expiry (before l.end l.attrs))

abbrev pub decreases-loop-at : goal.decreases-loop-at
decreases-loop-at l = l.at
